-- The entries of a set from its bytes, and the lowest bits of a word.
use mathlib.Core.Path.{◌≡◌, sym, ap, ap₂, ◌∙◌}
use mathlib.Core.Bool.{true, not}
use mathlib.Core.List.{List}
use Prim.Native.Nat.{ℕ, ◌+◌, ◌-◌, ◌*◌, ◌/◌, ◌%◌, ◌^◌, ◌<◌}
use native.Mathlib.Nat.{mod-lt}
use native.Mathlib.Omega.{arith}
use lib.Dec.{eqb}
use lib.ListN.{drop, get_or}
use lib.Pow.{pow_pos, split}
use lib.Seq.{get_or-drop}
use borrow.Author.Tests.{eq-eqb, eqb-true}
use Rattle.base.proofs.Tests.{same_test}
use Rattle.base.specs.Bits.{one}
use Rattle.policy_key_set.specs.Sets.{all_below, member}
use Rattle.policy_key_set.proofs.Below.{all_below_lem, below_all}
use Rattle.base.proofs.Bits.{low_bits, zero_one}
use Rattle.base.proofs.ByteBits.{bit_of_bytes}
use Rattle.policy_key_set.proofs.Bits.{bits_determine, not_one}
use Rattle.policy.specs.PolicyBytes.{words_from}
use Rattle.policy.proofs.Bytes.{get_or-words_from}

-- Entry i of a set is bit i mod 8 of byte i / 8 of the set.
pub member_of_bytes : (n at i : ℕ) (bs : List ℕ) → ((j : ℕ) → get_or bs j 0 < 256) → i < n * 64
    → member i (words_from n at bs) ≡ one (i % 8) (get_or (drop at bs) (i / 8) 0)
unfolding member
member_of_bytes n at i bs f h =
    let start = at + i / 64 * 8 in
    let b : (j : ℕ) → get_or (drop start bs) j 0 < 256 = (λ j. omega (arith, get_or-drop start bs j 0, f (start + j))) in
    let same_bit : i % 64 % 8 ≡ i % 8 = omega arith in
    let same_byte : start + i % 64 / 8 ≡ at + i / 8 = omega arith in
    ap (one (i % 64)) (get_or-words_from n at bs (i / 64) (omega arith))
    ∙ bit_of_bytes 8 (i % 64) (drop start bs) b (omega arith)
    ∙ ap₂ one same_bit
    (get_or-drop start bs (i % 64 / 8) 0 ∙ ap (λ (j : ℕ). get_or bs j 0) same_byte ∙ sym (get_or-drop at bs (i / 8) 0))

-- The lowest n bits of a word are all 1 exactly if the word mod 2 to the n is 2 to the n less 1.
pub low_ones : (n w : ℕ) → all_below n (λ (k : ℕ). one k w) ≡ eqb (w % 2 ^ n) (2 ^ n - 1)
low_ones n w =
    same_test (all_below n (λ (k : ℕ). one k w)) (eqb (w % 2 ^ n) (2 ^ n - 1))
    (λ t.
    eq-eqb (w % 2 ^ n) (2 ^ n - 1)
    (bits_determine n (w % 2 ^ n) (2 ^ n - 1) (mod-lt w (pow_pos n)) (omega (arith, pow_pos n))
    (λ k h. sym (same k h) ∙ all_below_lem n (λ (k : ℕ). one k w) t k h ∙ sym (full k h))))
    (λ t.
    below_all n (λ (k : ℕ). one k w) (λ k h. same k h ∙ ap (one k) (eqb-true (w % 2 ^ n) (2 ^ n - 1) t) ∙ full k h))
  where
    same : (k : ℕ) → k < n → one k w ≡ one k (w % 2 ^ n)
    same k h =
        let e : w ≡ w % 2 ^ n + w / 2 ^ n * 2 ^ n = omega (arith, split w n) in
        ap (one k) e ∙ low_bits n k (w % 2 ^ n) (w / 2 ^ n) h

    full : (k : ℕ) → k < n → one k (2 ^ n - 1) ≡ true
    full k h =
        let e : 2 ^ n - 1 ≡ 2 ^ n - 1 - 0 = omega arith in
        ap (one k) e ∙ not_one n k 0 h (pow_pos n) ∙ ap not (zero_one k)
