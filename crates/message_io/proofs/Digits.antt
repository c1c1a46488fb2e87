-- Decimal digits: the digits that `io::decimal` writes are those of the definition, and they encode the number.
use mathlib.Core.Path.{◌≡◌, refl, sym, ap, ap₂, ◌∙◌, subst}
use mathlib.Core.Bool.{Bool, true, false, cond}
use mathlib.Core.Logic.{◌⊎◌, inl, inr}
use mathlib.Core.List.{List, [], ◌∷◌, ◌++◌}
use Prim.Native.Nat.{ℕ, zero, suc, ◌+◌, ◌*◌, ◌-◌, ◌/◌, ◌%◌, ◌^◌, ◌<◌, ◌≤◌}
use native.Mathlib.Nat.{not-suc-le-zero, suc-add}
use native.Mathlib.Omega.{arith}
use lib.Dec.{ltb}
use borrow.Author.Tests.{le-ltb, lt-ltb, ltb-false}
use Rattle.base.proofs.Tests.{le_or_lt}
use Rattle.io.specs.Digits.{IsDigitCount, last_digits, hex_digit_ascii}
use Rattle.message_io.specs.Lines.{decimal, decimal_by}
use Rattle.message_io.specs.Theorems.{digits_number}

-- The last digit.
last : (n : ℕ) → hex_digit_ascii (n % 10) ≡ 48 + n % 10
last n = simp (lt-ltb (n % 10) 10 (omega arith))

shown : (k : ℕ) → suc (suc k) - 1 ≡ suc k
shown k = omega arith

less : (k : ℕ) → suc k - 1 ≡ k
less k = omega arith

ten : (k : ℕ) → 1 ≤ 10 ^ k
ten zero = omega arith
ten (suc k) = omega (arith, ten k)

by_fuel : (fuel k n : ℕ) → n ≤ fuel → IsDigitCount 10 1 n k → last_digits 10 k n ≡ decimal_by fuel n
unfolding decimal_by
by_fuel zero zero n h f = absurd (not-suc-le-zero f.0)
by_fuel (suc fuel) zero n h f = absurd (not-suc-le-zero f.0)
by_fuel zero (suc zero) n h f =
    let e : n % 10 ≡ n = omega arith in
    ap (λ (d : ℕ). d ∷ []) (last n ∙ ap (λ (m : ℕ). 48 + m) e)
by_fuel zero (suc (suc k)) n h f =
    let g = subst (λ (m : ℕ). 10 ^ m ≤ n) (shown k) (f.2 (omega arith)) in
    absurd (omega (arith, ten k))
by_fuel (suc fuel) (suc zero) n h f =
    let b : n < 10 = f.1 in
    let e : n % 10 ≡ n = omega arith in
    rw (lt-ltb n 10 b) (ap (λ (d : ℕ). d ∷ []) (last n ∙ ap (λ (m : ℕ). 48 + m) e))
by_fuel (suc fuel) (suc (suc k)) n h f =
    let g = subst (λ (m : ℕ). 10 ^ m ≤ n) (shown k) (f.2 (omega arith)) in
    rw (le-ltb n 10 (omega (arith, ten k)))
    (ap₂ (λ (xs : List ℕ) (d : ℕ). xs ++ (d ∷ []))
    (by_fuel fuel (suc k) (n / 10) (omega arith)
    (omega arith, omega arith, λ w. subst (λ (m : ℕ). 10 ^ m ≤ n / 10) (sym (less k)) (omega arith))) (last n))

-- 20 digits are enough for every number of 64 bits.
many : (i : ℕ) → 100000000000000000000 ≤ 10 ^ (i + 20)
many zero = omega arith
many (suc i) = subst (λ (m : ℕ). 100000000000000000000 ≤ 10 ^ m) (sym (suc-add i 20)) (omega (arith, many i))

pub at_most : (n k : ℕ) → n < 2 ^ 64 → IsDigitCount 10 1 n k → k ≤ 20
at_most n k h f = go (le_or_lt k 20)
  where
    go : (k ≤ 20) ⊎ (20 < k) → k ≤ 20
    go (inl w) = w
    go (inr w) =
        let e : k - 1 ≡ k - 21 + 20 = omega arith in
        let g = subst (λ (m : ℕ). 10 ^ m ≤ n) e (f.2 (omega arith)) in
        absurd (omega (arith, many (k - 21)))

pub decimal-digits : (k n : ℕ) → IsDigitCount 10 1 n k → last_digits 10 k n ≡ decimal n
unfolding decimal
decimal-digits k n f = by_fuel n k n (omega arith) f

-- ---- the digits encode the number

-- One more digit at the end.
after : (m : ℕ) (xs : List ℕ) (d : ℕ) → digits_number m (xs ++ (d ∷ [])) ≡ 10 * digits_number m xs + (d - 48)
unfolding digits_number
after m [] d = refl
after m (x ∷ xs) d = after (10 * m + (x - 48)) xs d

pub tells : (fuel n : ℕ) → n ≤ fuel → digits_number 0 (decimal_by fuel n) ≡ n
unfolding decimal_by digits_number
tells zero n h = omega arith
tells (suc fuel) n h = go (ltb n 10) refl (λ w. tells fuel (n / 10) w)
  where
    go : (b : Bool) → ltb n 10 ≡ b → (n / 10 ≤ fuel → digits_number 0 (decimal_by fuel (n / 10)) ≡ n / 10)
        → digits_number 0 (cond b ((48 + n) ∷ []) (decimal_by fuel (n / 10) ++ ((48 + n % 10) ∷ []))) ≡ n
    go true e i = omega arith
    go false e i =
        let g = ltb-false n 10 e in
        omega (arith, i (omega arith), after 0 (decimal_by fuel (n / 10)) (48 + n % 10))
