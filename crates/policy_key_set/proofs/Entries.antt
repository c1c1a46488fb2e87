-- The variation entries: their number, their indices, and words that pass the test of a rule.
use Rattle.std.specs.Prelude.{Some, None}
use mathlib.Core.Path.{◌≡◌, refl, sym, ap, ◌∙◌}
use mathlib.Core.Logic.{⊎_elim}
use mathlib.Core.Bool.{Bool, true, false, ◌&&◌}
use mathlib.Core.List.{List, [], ◌∷◌}
use Prim.Native.Nat.{ℕ, ◌*◌, ◌/◌, ◌%◌, ◌<◌, ◌≤◌}
use native.Mathlib.Omega.{arith}
use lib.Dec.{eqb, leb}
use lib.ListN.{get_or, length, replicate, set}
use borrow.Author.Tests.{eq-eqb, le-ltb, leb-true, lt-ltb, ne_eqb}
use Rattle.base.proofs.Tests.{both_true, le_or_lt}
use Rattle.base.specs.Bits.{one}
use Rattle.emoji.specs.Unicode.{variation_sequence_index}
use Rattle.emoji.specs.UnicodeData.{variation_entries}
use Rattle.emoji.proofs.Ascent.{entry_in_lem, entry_out, index_holds, place_is_index}
use Rattle.emoji.proofs.InOrder.{variation_entries_ascend}
use Rattle.policy_key_set.specs.Sets.{Holds, HoldsChars, all_below, entry_count, member, size_of, word_count}
use Rattle.policy_key_set.specs.KeySets.{words_match_rule}
use Rattle.policy_key_set.proofs.Below.{count_le}
use Rattle.policy_key_set.proofs.Members.{decide, holds_same, none_held, one-member, test_holds}

pub entry_count_lem : entry_count ≡ 354
unfolding entry_count variation_entries
entry_count_lem = refl

pub entries_length : length variation_entries ≡ 354
unfolding variation_entries
entries_length = refl

pub size_le : (ws : List ℕ) → size_of ws ≤ entry_count
unfolding size_of
size_le ws = count_le entry_count (λ (i : ℕ). member i ws)

-- An index is below the number of entries, and the entry there is the character.
pub index_has_place : (ch i : ℕ) → variation_sequence_index ch ≡ Some i → (i < entry_count) × (get_or variation_entries i 0 ≡ ch)
unfolding variation_sequence_index entry_count
index_has_place ch i e =
    let p = index_holds ch variation_entries i e in
    ⊎_elim (λ h. let q = entry_out i variation_entries h in let z : ◌≡◌ {A = ℕ} 0 1 = cc in absurd (omega arith))
    (λ h. let q = entry_in_lem i variation_entries h in (h, cc)) (le_or_lt (length variation_entries) i)

-- The index of the character of entry i is i.
pub place-has_index : (i : ℕ) → i < entry_count → variation_sequence_index (get_or variation_entries i 0) ≡ Some i
unfolding variation_sequence_index entry_count
place-has_index i h =
    place_is_index variation_entries variation_entries_ascend (get_or variation_entries i 0) i (entry_in_lem i variation_entries h)

-- The only entry with a given character is the one at its index. A character without an index is no entry.
pub only_entry : (ch i : ℕ) → variation_sequence_index ch ≡ Some i → (j : ℕ) → j < entry_count → eqb (get_or variation_entries j 0) ch
    ≡ eqb j i
only_entry ch i e j h =
    ⊎_elim (λ p. eq-eqb (get_or variation_entries j 0) ch (ap (λ (k : ℕ). get_or variation_entries k 0) p ∙ (index_has_place ch i e).1)
    ∙ sym (eq-eqb j i p))
    (λ p.
    ne_eqb (get_or variation_entries j 0) ch (λ q. p (let f = place-has_index j h in let g = ap variation_sequence_index q in cc))
    ∙ sym (ne_eqb j i p))
    (decide j i)

pub no_entry : (ch : ℕ) → variation_sequence_index ch ≡ None → (j : ℕ) → j < entry_count
    → eqb (get_or variation_entries j 0) ch ≡ false
no_entry ch e j h =
    ne_eqb (get_or variation_entries j 0) ch
    (λ q. let f = place-has_index j h in let g = ap variation_sequence_index q in let z : ◌≡◌ {A = ℕ} 0 1 = cc in omega arith)

-- Words that have a 1 only at a character's index hold only this character.
pub singleton_held : (ch i w : ℕ) → variation_sequence_index ch ≡ Some i → ((k : ℕ) → one k w ≡ eqb k (i % 64))
    → HoldsChars (λ (c : ℕ). eqb c ch) (set (replicate 6 0) (i / 64) w)
singleton_held ch i w e h j =
    let l = (index_has_place ch i e).0 in
    one-member 6 i w (omega (arith, entry_count_lem)) h j
    ∙ ⊎_elim (λ q. ne_eqb j i (λ r. omega arith) ∙ sym
    (ap (λ (b : Bool). b && eqb (get_or variation_entries j 0) ch) (le-ltb j entry_count q)))
    (λ q. sym (only_entry ch i e j q) ∙ sym (ap (λ (b : Bool). b && eqb (get_or variation_entries j 0) ch) (lt-ltb j entry_count q)))
    (le_or_lt entry_count j)

pub nothing-held : (ch : ℕ) → variation_sequence_index ch ≡ None → HoldsChars (λ (c : ℕ). eqb c ch) (replicate 6 0)
nothing-held ch e =
    holds_same entry_count (λ i. false) (λ i. eqb (get_or variation_entries i 0) ch) (replicate 6 0) (none_held entry_count 6)
    (λ j h. sym (no_entry ch e j h))

-- Words that pass the test of a rule hold the entries whose character matches it.
pub matching_words_hold : (p : ℕ → Bool) (ws : List ℕ) → words_match_rule p ws ≡ true → HoldsChars p ws
unfolding words_match_rule
matching_words_hold p ws t =
    let s = both_true (leb entry_count (length ws * 64)) _ t in
    test_holds entry_count (λ (i : ℕ). p (get_or variation_entries i 0)) ws (leb-true entry_count (length ws * 64) s.0) s.1

-- The words of all entries: bits 0 to 353 are 1.
abbrev pub all_words_lem : List ℕ
all_words_lem =
    0xFFFFFFFFFFFFFFFF
    ∷ 0xFFFFFFFFFFFFFFFF
    ∷ 0xFFFFFFFFFFFFFFFF
    ∷ 0xFFFFFFFFFFFFFFFF
    ∷ 0xFFFFFFFFFFFFFFFF
    ∷ 0x3FFFFFFFF
    ∷ []

pub all_words : Holds (λ (i : ℕ). true) all_words_lem
unfolding words_match_rule all_below member one entry_count variation_entries
all_words = matching_words_hold (λ c. true) all_words_lem refl

pub six : word_count ≡ 6
unfolding word_count
six = omega (arith, entry_count_lem)
