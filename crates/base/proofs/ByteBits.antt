-- The bits of the number that bytes encode.
use mathlib.Core.Path.{◌≡◌, sym, ap, ap₂, ◌∙◌}
use mathlib.Core.Logic.{⊎_elim}
use mathlib.Core.List.{List, [], ◌∷◌}
use Prim.Native.Nat.{ℕ, zero, suc, ◌+◌, ◌-◌, ◌*◌, ◌/◌, ◌%◌, ◌<◌, ◌≤◌}
use native.Mathlib.Omega.{arith}
use lib.ListN.{get_or, take}
use Rattle.base.specs.Bits.{one}
use Rattle.base.specs.Words.{number}
use Rattle.base.proofs.Bits.{low_bits, shifted_bit, zero_one}
use Rattle.base.proofs.Tests.{le_or_lt}

-- Bit k of the number that bytes encode is bit k mod 8 of byte k / 8.
pub bit_of_bytes : (n k : ℕ) (bs : List ℕ) → ((j : ℕ) → get_or bs j 0 < 256) → k < n * 8
    → one k (number (take n bs)) ≡ one (k % 8) (get_or bs (k / 8) 0)
unfolding number
bit_of_bytes zero k bs f h = absurd (omega arith)
bit_of_bytes (suc n) k [] f h = zero_one k ∙ sym (zero_one (k % 8))
bit_of_bytes (suc n) k (b ∷ bs) f h =
    let w = b + 256 * number (take n bs) in
    let first = f 0 in
    ⊎_elim
    (λ (l : 8 ≤ k).
    let e : k ≡ 8 + (k - 8) = omega arith in
    let rest : w / 256 ≡ number (take n bs) = omega arith in
    let same_bit : (k - 8) % 8 ≡ k % 8 = omega arith in
    let next : suc ((k - 8) / 8) ≡ k / 8 = omega arith in
    ap (λ (i : ℕ). one i w) e ∙ shifted_bit 8 (k - 8) w ∙ ap (one (k - 8)) rest
    ∙ bit_of_bytes n (k - 8) bs (λ j. f (suc j)) (omega arith)
    ∙ ap₂ (λ (i j : ℕ). one i (get_or (b ∷ bs) j 0)) same_bit next)
    (λ (l : k < 8).
    let e : w ≡ b + number (take n bs) * 256 = omega arith in
    let same_bit : k ≡ k % 8 = omega arith in
    let at_front : 0 ≡ k / 8 = omega arith in
    ap (one k) e ∙ low_bits 8 k b (number (take n bs)) l
    ∙ ap₂ (λ (i j : ℕ). one i (get_or (b ∷ bs) j 0)) same_bit at_front)
    (le_or_lt 8 k)
