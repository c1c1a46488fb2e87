-- The policy's rule for a base by its entry, the ASCII keys, and the bytes that hold both.
use Rattle.std.specs.Prelude.{Some, None, Option}
use mathlib.Core.Path.{◌≡◌, refl, sym, ap, ap₂, ◌∙◌}
use mathlib.Core.Logic.{◌⊎◌, inl, inr, ⊎_elim}
use mathlib.Core.Bool.{Bool, true, false, beq, cond, not, ◌&&◌, ◌||◌}
use mathlib.Core.List.{List}
use Prim.Native.Nat.{ℕ, ◌+◌, ◌*◌, ◌%◌, ◌<◌, ◌≤◌}
use native.Mathlib.Omega.{arith}
use lib.Dec.{eqb, ltb}
use lib.ListN.{drop, get_or, take}
use borrow.Author.Tests.{eq-eqb, eqb-true, le-ltb, lt-ltb}
use Rattle.base.specs.Words.{number}
use Rattle.base.proofs.Tests.{and_both, beq_so, both_true, le_or_lt, same_test}
use Rattle.base.proofs.Words.{number-eight, number_four}
use Rattle.emoji.specs.Unicode.{has_variation_sequence, variation_sequence_index}
use Rattle.emoji.specs.UnicodeData.{variation_entries}
use Rattle.emoji.proofs.Ascent.{is_at}
use Rattle.policy_key_set.specs.Sets.{all_below, contains, entry_count, member, member_at, word_count}
use Rattle.policy_key_set.specs.KeySets.{is_ascii, ordinary}
use Rattle.policy_key_set.specs.declared.PolicyKeySet.{PolicyKeySet}
use Rattle.policy_key_set.proofs.Below.{all_below_lem, below_all}
use Rattle.policy_key_set.proofs.Contains.{has_index}
use Rattle.policy_key_set.proofs.Entries.{entry_count_lem, index_has_place}
use Rattle.policy.specs.Policy.{entry_rule, holds_base, holds_entry, rule_of, singleton_rule}
use Rattle.policy.specs.PolicyBytes.{ascii_keys_bare, policy_of, words_from}
use Rattle.policy.specs.declared.Policy.{Policy}
use Rattle.policy.specs.declared.SingletonRule.TheVariants.{EmojiToBare, TextToBare}
use Rattle.policy.proofs.ByteBits.{low_ones}

-- A key set holds a base exactly if it holds the base's entry.
pub holds-by_entry : (s : PolicyKeySet) (c i : ℕ) (keycap : Bool) → variation_sequence_index c ≡ Some i
    → holds_base s c keycap ≡ holds_entry s i keycap
unfolding holds_base holds_entry contains member_at
holds-by_entry s c i false e = ap (λ (r : Option ℕ). member_at r s.chars.bits) e
holds-by_entry s c i true e = ap (λ (r : Option ℕ). member_at r s.keycap_chars.bits) e

pub rule_by_entry : (p : Policy) (c i : ℕ) (keycap : Bool) → variation_sequence_index c ≡ Some i
    → singleton_rule p c keycap ≡ entry_rule p i keycap
unfolding singleton_rule entry_rule
rule_by_entry p c i keycap e =
    ap₂ rule_of (holds-by_entry p.prefer_bare c i keycap e) (holds-by_entry p.bare_as_text c i keycap e)

-- The rule for an entry from the two sets in the bytes.
pub rule_by_sets : (bs : List ℕ) (i start : ℕ) (keycap : Bool) → start ≡ cond keycap 56 8
    → rule_of (member i (words_from word_count start bs)) (member i (words_from word_count (96 + start) bs))
    ≡ entry_rule (policy_of bs) i keycap
unfolding entry_rule holds_entry policy_of word_count entry_count variation_entries
rule_by_sets bs i start false e =
    ap (λ (at : ℕ). rule_of (member i (words_from 6 at bs)) (member i (words_from 6 (96 + at) bs))) e
rule_by_sets bs i start true e =
    ap (λ (at : ℕ). rule_of (member i (words_from 6 at bs)) (member i (words_from 6 (96 + at) bs))) e

-- The ASCII entries are the first twelve.
first_entries : all_below entry_count (λ (i : ℕ). beq (is_ascii (get_or variation_entries i 0)) (ltb i 12)) ≡ true
unfolding all_below entry_count variation_entries
first_entries = refl

ascii_entry : (i : ℕ) → i < entry_count → is_ascii (get_or variation_entries i 0) ≡ ltb i 12
ascii_entry i h =
    beq_so (is_ascii (get_or variation_entries i 0)) (ltb i 12)
    (all_below_lem entry_count (λ (i : ℕ). beq (is_ascii (get_or variation_entries i 0)) (ltb i 12)) first_entries i h)

-- A test of the ASCII entries is a test of the first twelve entries.
abbrev ascii_test : (ℕ → Bool) → ℕ → Bool
ascii_test p i = not (is_ascii (get_or variation_entries i 0)) || p i

ascii_below : (p : ℕ → Bool) → all_below entry_count (ascii_test p) ≡ all_below 12 p
ascii_below p =
    same_test (all_below entry_count (ascii_test p)) (all_below 12 p)
    (λ t. below_all 12 p (λ i h.
    let l : i < entry_count = omega (arith, entry_count_lem) in
    ap (λ (b : Bool). not b || p i) (sym (ascii_entry i l ∙ lt-ltb i 12 h)) ∙ all_below_lem entry_count (ascii_test p) t i l))
    (λ t. below_all entry_count (ascii_test p) (λ i l.
    ⊎_elim (λ (h : 12 ≤ i). ap (λ (b : Bool). not b || p i) (ascii_entry i l ∙ le-ltb i 12 h))
    (λ h. ap (λ (b : Bool). not b || p i) (ascii_entry i l ∙ lt-ltb i 12 h) ∙ all_below_lem 12 p t i h) (le_or_lt 12 i)))

-- So the ASCII keys are the lowest twelve bits of the first word after the version.
first_bits : (bs : List ℕ)
    → all_below 12 (ordinary (policy_of bs).prefer_bare) ≡ eqb (number (take 8 (drop 8 bs)) % 4096) 4095
unfolding all_below member policy_of words_from word_count entry_count variation_entries
first_bits bs = low_ones 12 (number (take 8 (drop 8 bs)))

ascii_keys_word : (bs : List ℕ) → ascii_keys_bare bs ≡ eqb (number (take 8 (drop 8 bs)) % 4096) 4095
unfolding ascii_keys_bare
ascii_keys_word bs = ascii_below (ordinary (policy_of bs).prefer_bare) ∙ first_bits bs

-- These are the bits of the first byte of that word and the lowest four bits of its second byte.
pub ascii_keys_bytes : (bs : List ℕ) (a b : ℕ) → a ≡ get_or (drop 8 bs) 0 0 → b ≡ get_or (drop 8 bs) 1 0 → a < 256
    → ascii_keys_bare bs ≡ (eqb a 0xFF && eqb (b % 16) 0xF)
ascii_keys_bytes bs a b p q h =
    let w = number (take 8 (drop 8 bs)) % 4096 in
    let n : w ≡ a + 256 * (b % 16) = omega (arith, number-eight (drop 8 bs), number_four (drop 8 bs)) in
    ascii_keys_word bs
    ∙ same_test (eqb w 4095) (eqb a 0xFF && eqb (b % 16) 0xF)
    (λ t.
    let e = eqb-true w 4095 t in
    and_both (eqb a 0xFF) (eqb (b % 16) 0xF) (eq-eqb a 0xFF (omega arith)) (eq-eqb (b % 16) 0xF (omega arith)))
    (λ t.
    let s = both_true (eqb a 0xFF) (eqb (b % 16) 0xF) t in
    eq-eqb w 4095 (omega (arith, eqb-true a 0xFF s.0, eqb-true (b % 16) 0xF s.1)))

-- If all ASCII keys prefer bare, `prefer_bare` holds each ASCII base.
pub ascii_base_bare : (bs : List ℕ) → ascii_keys_bare bs ≡ true → (c : ℕ) → c ≤ 0x7F → has_variation_sequence c ≡ true
    → holds_base (policy_of bs).prefer_bare c false ≡ true
unfolding ascii_keys_bare holds_entry is_at
ascii_base_bare bs t c l h = go (variation_sequence_index c) refl (sym (has_index c) ∙ h)
  where
    go : (r : Option ℕ) → variation_sequence_index c ≡ r → is_at r ≡ true
        → holds_base (policy_of bs).prefer_bare c false ≡ true
    go (Some i) e a =
        let p = index_has_place c i e in
        holds-by_entry (policy_of bs).prefer_bare c i false e
        ∙ ap (λ (b : Bool). not b || ordinary (policy_of bs).prefer_bare i)
        (sym (ap is_ascii p.1 ∙ lt-ltb c 0x80 (omega arith)))
        ∙ all_below_lem entry_count (ascii_test (ordinary (policy_of bs).prefer_bare)) t i p.0
    go None e a = cc

-- Then the rule for an ASCII base is one of the two rules whose result is bare.
pub ascii_rule_bare : (bs : List ℕ) → ascii_keys_bare bs ≡ true → (c : ℕ) → c ≤ 0x7F → has_variation_sequence c ≡ true
    → (singleton_rule (policy_of bs) c false ≡ TextToBare) ⊎ (singleton_rule (policy_of bs) c false ≡ EmojiToBare)
unfolding singleton_rule rule_of
ascii_rule_bare bs t c l h = go (holds_base (policy_of bs).bare_as_text c false) refl
  where
    go : (b : Bool) → holds_base (policy_of bs).bare_as_text c false ≡ b
        → (singleton_rule (policy_of bs) c false ≡ TextToBare) ⊎ (singleton_rule (policy_of bs) c false ≡ EmojiToBare)
    go true e = inl (ap₂ rule_of (ascii_base_bare bs t c l h) e)
    go false e = inr (ap₂ rule_of (ascii_base_bare bs t c l h) e)
