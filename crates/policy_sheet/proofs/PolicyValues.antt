-- The policy that bytes encode has words of 64 bits, and the bytes of a policy are 200.
use mathlib.Core.Path.{◌≡◌, ◌∙◌}
use mathlib.Core.Logic.{⊎_elim}
use mathlib.Core.Bool.{true}
use mathlib.Core.List.{List, [], ◌∷◌}
use Prim.Native.Nat.{ℕ, zero, suc, ◌+◌, ◌*◌, ◌^◌, ◌<◌}
use native.Mathlib.Nat.{pow-suc}
use native.Mathlib.Omega.{arith}
use lib.Dec.{leb}
use lib.ListN.{get_or-eq_default, drop, get_or, length, take}
use borrow.Author.Tests.{leb-true}
use Rattle.base.specs.Words.{all_bytes, number}
use Rattle.base.proofs.Numbers.{length_bytes_of_lem}
use Rattle.base.proofs.Tests.{both_true, le_or_lt}
use Rattle.base.proofs.Words.{all_bytes_drop}
use Rattle.emoji.specs.UnicodeData.{unicode_version}
use Rattle.policy_key_set.specs.Sets.{word_count}
use Rattle.policy_key_set.proofs.Entries.{six}
use Rattle.policy.specs.PolicyBytes.{PolicyValue, SetValue, policy_bytes, policy_of, policy_words, words_from}
use Rattle.policy.specs.declared.Policy.{Policy}
use Rattle.policy.proofs.Bytes.{get_or-words_from, length_words_from}
use Rattle.policy.proofs.RoundTrips.{many_words}

number-below : (n : ℕ) (bs : List ℕ) → all_bytes bs ≡ true → number (take n bs) < 256 ^ n
unfolding number all_bytes
number-below zero bs t = omega arith
number-below (suc n) [] t = omega (arith, pow-suc 256 n, number-below n [] t)
number-below (suc n) (b ∷ bs) t =
    let p = both_true (leb b 255) (all_bytes bs) t in
    omega (arith, pow-suc 256 n, number-below n bs p.1, leb-true b 255 p.0)

set_of_bytes : (at : ℕ) (bs : List ℕ) → all_bytes bs ≡ true → SetValue (words_from word_count at bs)
set_of_bytes at bs t = record { has_word_count = length_words_from word_count at bs; words = below }
  where
    below : (k : ℕ) → get_or (words_from word_count at bs) k 0 < 2 ^ 64
    below k =
        ⊎_elim
        (λ h. let e : get_or (words_from word_count at bs) k 0 ≡ 0
        = get_or-eq_default (words_from word_count at bs) 0 (omega (arith, length_words_from word_count at bs)) in omega arith)
        (λ h. omega (
          arith,
          get_or-words_from word_count at bs k h,
          number-below 8 (drop (at + k * 8) bs) (all_bytes_drop (at + k * 8) bs t),
        ))
        (le_or_lt word_count k)

pub value_of_bytes : (bs : List ℕ) → all_bytes bs ≡ true → PolicyValue (policy_of bs)
unfolding policy_of
value_of_bytes bs t = record {
  prefer_bare_set = set_of_bytes (8 + 0 * (word_count * 8)) bs t;
  prefer_bare_keycap_set = set_of_bytes (8 + 1 * (word_count * 8)) bs t;
  bare_as_text_set = set_of_bytes (8 + 2 * (word_count * 8)) bs t;
  bare_as_text_keycap_set = set_of_bytes (8 + 3 * (word_count * 8)) bs t;
}

pub policy_bytes-many : (p : Policy) → PolicyValue p → length (policy_bytes p) ≡ 200
unfolding policy_bytes
policy_bytes-many p v =
    let n = many_words p
    (record {
      first = v.prefer_bare_set.has_word_count ∙ six;
      second = v.prefer_bare_keycap_set.has_word_count ∙ six;
      third = v.bare_as_text_set.has_word_count ∙ six;
      fourth = v.bare_as_text_keycap_set.has_word_count ∙ six;
    }) in
    omega (arith, length_bytes_of_lem (unicode_version ∷ policy_words p), n)
