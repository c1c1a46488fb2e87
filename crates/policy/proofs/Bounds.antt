-- The size of a word and its bits.
use mathlib.Core.Path.{◌≡◌, ap, subst}
use mathlib.Core.Logic.{⊎_elim}
use mathlib.Core.Bool.{false}
use Prim.Native.Nat.{ℕ, zero, suc, ◌+◌, ◌*◌, ◌/◌, ◌%◌, ◌^◌, ◌<◌, ◌≤◌}
use native.Mathlib.Nat.{add-zero, div-eq_of_lt}
use native.Mathlib.Omega.{arith}
use lib.Dec.{eqb}
use lib.Pow.{pow_mono, shl-shr, shr_lt, shr_mono}
use borrow.Author.Tests.{eqb-false}
use Rattle.base.proofs.Tests.{le_or_lt}
use Rattle.base.specs.Bits.{one}

-- A word below 2 to the n has no one from bit n on.
pub high_bits : (n k w : ℕ) → w < 2 ^ n → n ≤ k → one k w ≡ false
unfolding one
high_bits n k w h l = ap (λ (x : ℕ). eqb (x % 2) 1) (div-eq_of_lt {n = w} {m = 2 ^ k} (omega (arith, pow_mono l)))

-- A word below 2 to the m + 1 whose bit m is 0 is below 2 to the m.
one_bit_less : (m w : ℕ) → w < 2 ^ (1 + m) → one m w ≡ false → w < 2 ^ m
unfolding one
one_bit_less m w h f =
    ⊎_elim
    (λ (l : 2 ^ m ≤ w).
    let one-or-more = shr_mono m l in
    let is_one = shl-shr 1 m in
    let below_two = shr_lt 1 m h in
    let not_one = eqb-false (w / 2 ^ m % 2) 1 f in
    let e : 2 ^ m / 2 ^ m ≡ 1 * 2 ^ m / 2 ^ m = ap (λ (x : ℕ). x / 2 ^ m) (omega arith) in
    let q : w / 2 ^ m % 2 ≡ 1 = omega arith in
    absurd (not_one q))
    (λ l. l) (le_or_lt (2 ^ m) w)

-- A word below 2 to the n + j whose bits from n on are all 0 is below 2 to the n.
pub low_word : (j n w : ℕ) → w < 2 ^ (n + j) → ((k : ℕ) → n ≤ k → k < n + j → one k w ≡ false) → w < 2 ^ n
low_word zero n w h f = subst (λ (k : ℕ). w < 2 ^ k) (add-zero n) h
low_word (suc j) n w h f =
    let e : n + suc j ≡ 1 + (n + j) = omega arith in
    low_word j n w (one_bit_less (n + j) w (subst (λ (k : ℕ). w < 2 ^ k) e h) (f (n + j) (omega arith) (omega arith)))
    (λ k l m. f k l (omega arith))
