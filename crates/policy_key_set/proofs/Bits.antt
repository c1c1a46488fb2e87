-- The bits of the result of an operation on words.
use mathlib.Core.Path.{◌≡◌, refl, sym, ap, ◌∙◌}
use mathlib.Core.Bool.{Bool, not, ◌||◌, ◌&&◌}
use Prim.Native.Nat.{ℕ, zero, suc, ◌+◌, ◌-◌, ◌*◌, ◌/◌, ◌%◌, ◌^◌, min, max, ◌<◌}
use native.Mathlib.Nat.{le_of_suc-le-suc, not-suc-le-zero, pow-suc}
use native.Mathlib.Omega.{arith}
use lib.Dec.{eqb, eqb-suc-suc, eqb-suc-zero, eqb-zero-suc}
use lib.Bits.{and_shr, and_step, bit_and, bit_or, bit_xor, differ, or_shr, or_step, xor_shr, xor_step}
use Rattle.base.specs.Bits.{one}
use Rattle.base.proofs.Bits.{low_bit, next_bit, zero_one}
use Rattle.policy_key_set.specs.Sets as Sets

-- An operation that acts on each bit separately, and its truth table.
module _
    (op : ℕ → ℕ → ℕ)
    (f : ℕ → ℕ → ℕ)
    (g : Bool → Bool → Bool)
    (shr : (a b k : ℕ) → op a b / 2 ^ k ≡ op (a / 2 ^ k) (b / 2 ^ k))
    (step : (a b : ℕ) → op a b ≡ op (a / 2) (b / 2) * 2 + f (a % 2) (b % 2))
    (on-bits : (x y : ℕ) → x < 2 → y < 2 → (f x y < 2) × (eqb (f x y) 1 ≡ g (eqb x 1) (eqb y 1))) where
  bit_by_bit : (k a b : ℕ) → one k (op a b) ≡ g (one k a) (one k b)
  unfolding one
  bit_by_bit k a b =
      let h = on-bits (a / 2 ^ k % 2) (b / 2 ^ k % 2) (omega arith) (omega arith) in
      let p = h.0 in
      let low : op (a / 2 ^ k) (b / 2 ^ k) % 2 ≡ f (a / 2 ^ k % 2) (b / 2 ^ k % 2) =
      omega (arith, step (a / 2 ^ k) (b / 2 ^ k)) in
      ap (λ (n : ℕ). eqb (n % 2) 1) (shr a b k) ∙ ap (λ (n : ℕ). eqb n 1) low ∙ h.1

-- A property of two bits holds if it holds for the four pairs.
bits_are : (P : ℕ → ℕ → Type 0) → P 0 0 → P 0 1 → P 1 0 → P 1 1 → (x y : ℕ) → x < 2 → y < 2 → P x y
bits_are P a b c d zero zero h i = a
bits_are P a b c d zero (suc zero) h i = b
bits_are P a b c d (suc zero) zero h i = c
bits_are P a b c d (suc zero) (suc zero) h i = d
bits_are P a b c d zero (suc (suc y)) h i = absurd (omega arith)
bits_are P a b c d (suc zero) (suc (suc y)) h i = absurd (omega arith)
bits_are P a b c d (suc (suc x)) y h i = absurd (omega arith)

pub or_one : (k a b : ℕ) → one k (bit_or a b) ≡ (one k a || one k b)
or_one =
    bit_by_bit bit_or max ◌||◌ or_shr or_step
    (bits_are (λ x y. (max x y < 2) × (eqb (max x y) 1 ≡ (eqb x 1 || eqb y 1))) (omega arith, refl) (omega arith, refl)
    (omega arith, refl) (omega arith, refl))

pub and_one : (k a b : ℕ) → one k (bit_and a b) ≡ (one k a && one k b)
and_one =
    bit_by_bit bit_and min ◌&&◌ and_shr and_step
    (bits_are (λ x y. (min x y < 2) × (eqb (min x y) 1 ≡ (eqb x 1 && eqb y 1))) (omega arith, refl) (omega arith, refl)
    (omega arith, refl) (omega arith, refl))

pub xor_one : (k a b : ℕ) → one k (bit_xor a b) ≡ Sets.differ (one k a) (one k b)
xor_one =
    bit_by_bit bit_xor differ Sets.differ xor_shr xor_step
    (bits_are (λ x y. (differ x y < 2) × (eqb (differ x y) 1 ≡ Sets.differ (eqb x 1) (eqb y 1))) (omega arith, refl)
    (omega arith, refl) (omega arith, refl) (omega arith, refl))

-- The complement of n bits.
half_not : (p a : ℕ) → a < p * 2 → (p * 2 - 1 - a) / 2 ≡ p - 1 - a / 2
half_not p a h = omega arith

low_not : (p a : ℕ) → a < p * 2 → (p * 2 - 1 - a) % 2 ≡ 1 - a % 2
low_not p a h = omega arith

not_test : (a : ℕ) → a < 2 → eqb (1 - a) 1 ≡ not (eqb a 1)
not_test zero h = refl
not_test (suc zero) h = refl
not_test (suc (suc a)) h = absurd (omega arith)

pub not_one : (n k a : ℕ) → k < n → a < 2 ^ n → one k (2 ^ n - 1 - a) ≡ not (one k a)
not_one zero k a h l = absurd (not-suc-le-zero h)
not_one (suc n) zero a h l =
    let l' : a < 2 ^ n * 2 = rw pow-suc at l in
    low_bit (2 ^ suc n - 1 - a) ∙ ap (λ (p : ℕ). eqb ((p - 1 - a) % 2) 1) (pow-suc 2 n)
    ∙ ap (λ (m : ℕ). eqb m 1) (low_not (2 ^ n) a l') ∙ not_test (a % 2) (omega arith) ∙ ap not (sym (low_bit a))
not_one (suc n) (suc k) a h l =
    let l' : a < 2 ^ n * 2 = rw pow-suc at l in
    next_bit k (2 ^ suc n - 1 - a) ∙ ap (λ (p : ℕ). one k ((p - 1 - a) / 2)) (pow-suc 2 n)
    ∙ ap (one k) (half_not (2 ^ n) a l') ∙ not_one n k (a / 2) (le_of_suc-le-suc h) (omega arith)
    ∙ ap not (sym (next_bit k a))

-- A power of two has one bit.
pub power-one : (k n : ℕ) → one k (2 ^ n) ≡ eqb k n
power-one zero zero = low_bit 1
power-one zero (suc n) =
    let e : 2 ^ suc n % 2 ≡ 0 = let p = pow-suc 2 n in omega arith in
    low_bit (2 ^ suc n) ∙ ap (λ (m : ℕ). eqb m 1) e ∙ sym (eqb-zero-suc n)
power-one (suc k) zero = next_bit k 1 ∙ zero_one k ∙ sym (eqb-suc-zero k)
power-one (suc k) (suc n) =
    let e : 2 ^ suc n / 2 ≡ 2 ^ n = let p = pow-suc 2 n in omega arith in
    next_bit k (2 ^ suc n) ∙ ap (one k) e ∙ power-one k n ∙ sym (eqb-suc-suc k n)

-- Numbers below 2 ^ n with the same n bits are equal.
pub bits_determine : (n a b : ℕ) → a < 2 ^ n → b < 2 ^ n → ((k : ℕ) → k < n → one k a ≡ one k b) → a ≡ b
bits_determine zero a b h i e = omega arith
bits_determine (suc n) a b h i e =
    let h' : a < 2 ^ n * 2 = rw pow-suc at h in
    let i' : b < 2 ^ n * 2 = rw pow-suc at i in
    let rest : a / 2 ≡ b / 2 =
    bits_determine n (a / 2) (b / 2) (omega arith) (omega arith) (λ k l. sym (next_bit k a) ∙ e (suc k) (omega arith) ∙ next_bit k b) in
    let low : a % 2 ≡ b % 2 = same (a % 2) (b % 2) (omega arith) (omega arith) (sym (low_bit a) ∙ e 0 (omega arith) ∙ low_bit b) in
    omega arith
  where
    same : (x y : ℕ) → x < 2 → y < 2 → eqb x 1 ≡ eqb y 1 → x ≡ y
    same = bits_are (λ x y. eqb x 1 ≡ eqb y 1 → x ≡ y) (λ e. refl) (λ e. cc) (λ e. cc) (λ e. refl)
