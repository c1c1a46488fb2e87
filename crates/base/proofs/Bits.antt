-- The bits of a word, lowest bit first.
use mathlib.Core.Path.{◌≡◌, refl, sym, ap, ◌∙◌}
use mathlib.Core.Bool.{true, false}
use Prim.Native.Nat.{ℕ, zero, suc, ◌+◌, ◌*◌, ◌/◌, ◌%◌, ◌^◌, ◌<◌, ◌≤◌}
use native.Mathlib.Nat.{le_of_suc-le-suc, min-eq_left, min-eq_right, mul_assoc, not-suc-le-zero, pow-suc, zero-div}
use native.Mathlib.Numerals.{one-add}
use native.Mathlib.Omega.{arith}
use lib.Bits.{bit_and, and_shr, and_step}
use lib.Count.{count_trailing_zeros, under}
use lib.Dec.{eqb}
use lib.Pow.{shr-shr}
use borrow.Author.Tests.{eqb-false, eqb-true, eq-eqb}
use Rattle.base.specs.Bits.{one}

-- Bit 0 is the word mod 2. Bit k + 1 is bit k of half the word.
pub low_bit : (w : ℕ) → one 0 w ≡ eqb (w % 2) 1
unfolding one
low_bit w = let e : w / 2 ^ 0 % 2 ≡ w % 2 = omega arith in ap (λ (n : ℕ). eqb n 1) e

pub next_bit : (k w : ℕ) → one (suc k) w ≡ one k (w / 2)
unfolding one
next_bit k w = ap (λ (n : ℕ). eqb (n % 2) 1) (sym (shr-shr w 1 k ∙ ap (λ (m : ℕ). w / 2 ^ m) (one-add k)))

pub zero_one : (k : ℕ) → one k 0 ≡ false
unfolding one
zero_one k = ap (λ (n : ℕ). eqb (n % 2) 1) (zero-div (2 ^ k))

doubled : (m n : ℕ) → n * 2 ^ suc m ≡ n * 2 ^ m * 2
doubled m n = ap (λ (x : ℕ). n * x) (pow-suc 2 m) ∙ sym (mul_assoc n (2 ^ m) 2)

-- A bit below m does not depend on the bits from m on.
pub low_bits : (m k b n : ℕ) → k < m → one k (b + n * 2 ^ m) ≡ one k b
low_bits zero k b n h = absurd (not-suc-le-zero h)
low_bits (suc m) zero b n h =
    let e : (b + n * 2 ^ suc m) % 2 ≡ b % 2 = omega (arith, doubled m n) in
    low_bit (b + n * 2 ^ suc m) ∙ ap (λ (x : ℕ). eqb x 1) e ∙ sym (low_bit b)
low_bits (suc m) (suc k) b n h =
    let e : (b + n * 2 ^ suc m) / 2 ≡ b / 2 + n * 2 ^ m = omega (arith, doubled m n) in
    next_bit k (b + n * 2 ^ suc m) ∙ ap (one k) e ∙ low_bits m k (b / 2) n (le_of_suc-le-suc h) ∙ sym (next_bit k b)

-- Bit m + k of a word is bit k of the word without its lowest m bits.
pub shifted_bit : (m k w : ℕ) → one (m + k) w ≡ one k (w / 2 ^ m)
unfolding one
shifted_bit m k w = ap (λ (x : ℕ). eqb (x % 2) 1) (sym (shr-shr w m k))

-- Where the mask has a 1, AND keeps the bit.
pub and_bit : (k a b : ℕ) → one k b ≡ true → one k (bit_and a b) ≡ one k a
unfolding one
and_bit k a b h =
    let x = a / 2 ^ k in
    let y = b / 2 ^ k in
    let odd : y % 2 ≡ 1 = eqb-true (y % 2) 1 h in
    let le : x % 2 ≤ y % 2 = omega arith in
    let e : bit_and x y % 2 ≡ x % 2 = omega (arith, and_step x y, min-eq_left le) in
    ap (λ (n : ℕ). eqb (n % 2) 1) (and_shr a b k) ∙ ap (λ (n : ℕ). eqb n 1) e

-- Where the mask has a 0, the bit of AND is 0.
pub and_no_bit : (k a b : ℕ) → one k b ≡ false → one k (bit_and a b) ≡ false
unfolding one
and_no_bit k a b h =
    let x = a / 2 ^ k in
    let y = b / 2 ^ k in
    let even : y % 2 ≡ 0 = omega (arith, eqb-false (y % 2) 1 h) in
    let le : y % 2 ≤ x % 2 = omega arith in
    let e : bit_and x y % 2 ≡ 0 = omega (arith, and_step x y, min-eq_right le) in
    ap (λ (n : ℕ). eqb (n % 2) 1) (and_shr a b k) ∙ ap (λ (n : ℕ). eqb n 1) e

-- The bits below the lowest 1 are 0.
even_below : (d t i : ℕ) → i < under d t → (d ≡ 0) × (i < suc t)
even_below zero t i h = (refl, h)
even_below (suc d) t i h = absurd (not-suc-le-zero h)

pub trailing_bit : (k n i : ℕ) → i < count_trailing_zeros k n → one i n ≡ false
unfolding count_trailing_zeros
trailing_bit zero n i h = absurd (not-suc-le-zero h)
trailing_bit (suc k) n zero h =
    low_bit n ∙ ap (λ (x : ℕ). eqb x 1) (even_below (n % 2) (count_trailing_zeros k (n / 2)) zero h).0
trailing_bit (suc k) n (suc i) h =
    next_bit i n
    ∙ trailing_bit k (n / 2) i (le_of_suc-le-suc (even_below (n % 2) (count_trailing_zeros k (n / 2)) (suc i) h).1)

-- The bit whose index is the number of trailing zeros is 1.
pub trailing_one : (k n : ℕ) → count_trailing_zeros k n < k → one (count_trailing_zeros k n) n ≡ true
unfolding count_trailing_zeros
trailing_one zero n h = absurd (not-suc-le-zero h)
trailing_one (suc k) n h = go (n % 2) refl h (trailing_one k (n / 2))
  where
    go : (d : ℕ) → n % 2 ≡ d → under d (count_trailing_zeros k (n / 2)) < suc k
        → (count_trailing_zeros k (n / 2) < k → one (count_trailing_zeros k (n / 2)) (n / 2) ≡ true)
        → one (under d (count_trailing_zeros k (n / 2))) n ≡ true
    go zero e l rest = next_bit (count_trailing_zeros k (n / 2)) n ∙ rest (le_of_suc-le-suc l)
    go (suc d) e l rest = low_bit n ∙ eq-eqb (n % 2) 1 (omega arith)

-- A word of k bits without a 1 is 0.
pub trailing_all : (k n : ℕ) → n < 2 ^ k → k ≤ count_trailing_zeros k n → n ≡ 0
unfolding count_trailing_zeros
trailing_all zero n h e = omega arith
trailing_all (suc k) n h e =
    let even = even_below (n % 2) (count_trailing_zeros k (n / 2)) k e in
    let half = trailing_all k (n / 2) (omega (arith, pow-suc 2 k)) (le_of_suc-le-suc even.1) in
    omega (arith, even.0)
