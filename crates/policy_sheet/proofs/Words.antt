-- Words that hold what passes a test, and the policy of pieces.
use mathlib.Core.Path.{◌≡◌, ap, sym, ◌∙◌}
use mathlib.Core.Logic.{⊎_elim}
use mathlib.Core.Bool.{Bool, ◌&&◌}
use mathlib.Core.List.{List}
use Prim.Native.Nat.{ℕ, ◌^◌, ◌≤◌, ◌<◌}
use native.Mathlib.Omega.{arith}
use lib.Dec.{ltb}
use lib.ListN.{get_or-eq_default, get_or, length}
use borrow.Author.Tests.{le-ltb}
use Rattle.base.proofs.Tests.{le_or_lt}
use Rattle.policy_key_set.proofs.TestWords.{words_hold, words_many, words_small}
use Rattle.policy_key_set.specs.Sets.{Holds, entry_count, word_count}
use Rattle.policy_key_set.proofs.Entries.{entry_count_lem, six}
use Rattle.policy_key_set.proofs.Members.{members_determine}
use Rattle.policy.specs.PolicyBytes.{SetValue}
use Rattle.policy.specs.declared.Policy.{Policy}
use Rattle.policy.proofs.RoundTrips.{same-policy}
use Rattle.policy_sheet.specs.Grammar.{Piece}
use Rattle.policy_sheet.specs.Meaning.{Means, in_set, set_by, sheet_policy}

set_value : (p : ℕ → Bool) → SetValue (set_by p).bits
set_value p = record { has_word_count = words_many word_count _; words = words_small word_count _ }

set_holds : (p : ℕ → Bool) → Holds p (set_by p).bits
set_holds p = words_hold word_count (λ (i : ℕ). ltb i entry_count && p i)
    (λ i h. ap (λ (b : Bool). b && p i) (le-ltb i entry_count (omega (arith, six, entry_count_lem))))

pub pieces_mean : (xs : List Piece) → Means xs (sheet_policy xs)
unfolding sheet_policy
pieces_mean xs = record {
  value = record {
    prefer_bare_set = set_value (in_set xs 0);
    prefer_bare_keycap_set = set_value (in_set xs 1);
    bare_as_text_set = set_value (in_set xs 2);
    bare_as_text_keycap_set = set_value (in_set xs 3);
  };
  prefer_bare_set = set_holds (in_set xs 0);
  prefer_bare_keycap_set = set_holds (in_set xs 1);
  bare_as_text_set = set_holds (in_set xs 2);
  bare_as_text_keycap_set = set_holds (in_set xs 3);
}

same_set : (p : ℕ → Bool) (ws vs : List ℕ) → SetValue ws → SetValue vs → Holds p ws → Holds p vs → ws ≡ vs
same_set p ws vs a b h g = members_determine ws vs (a.has_word_count ∙ sym b.has_word_count) a.words b.words (λ i. h i ∙ sym (g i))

pub one-meaning : (xs : List Piece) (p q : Policy) → Means xs p → Means xs q → p ≡ q
one-meaning xs p q h g =
    same-policy p q (same_set (in_set xs 0) _ _ h.value.prefer_bare_set g.value.prefer_bare_set h.prefer_bare_set g.prefer_bare_set)
    (same_set (in_set xs 1) _ _ h.value.prefer_bare_keycap_set g.value.prefer_bare_keycap_set h.prefer_bare_keycap_set
    g.prefer_bare_keycap_set)
    (same_set (in_set xs 2) _ _ h.value.bare_as_text_set g.value.bare_as_text_set h.bare_as_text_set g.bare_as_text_set)
    (same_set (in_set xs 3) _ _ h.value.bare_as_text_keycap_set g.value.bare_as_text_keycap_set h.bare_as_text_keycap_set
    g.bare_as_text_keycap_set)

-- Six words of 64 bits are a set.
pub six_words : (ws : List ℕ) (i : ℕ) → length ws ≡ 6 → 6 ≤ i → ((k : ℕ) → k < i → get_or ws k 0 < 2 ^ 64) → SetValue ws
six_words ws i n l f = record { has_word_count = n ∙ sym six; words = at }
  where
    at : (k : ℕ) → get_or ws k 0 < 2 ^ 64
    at k = ⊎_elim (λ h. let e : get_or ws k 0 ≡ 0 = get_or-eq_default ws 0 (omega arith) in omega arith) (λ h. f k h) (le_or_lt i k)
