-- Sums over clients: two that differ at one client only.
use mathlib.Core.Path.{◌≡◌, refl, ap}
use mathlib.Core.Bool.{Bool, true, false}
use Prim.Native.Nat.{ℕ, zero, suc, ◌+◌, ◌≤◌, ◌<◌}
use native.Mathlib.Omega.{arith}
use lib.Dec.{eqb}
use borrow.Author.Tests.{eqb-false, eqb-true}
use Rattle.base.specs.Sums.{sum_below}

pub sum_same : (n : ℕ) (f g : ℕ → ℕ) → ((d : ℕ) → d < n → f d ≡ g d) → sum_below n f ≡ sum_below n g
unfolding sum_below
sum_same zero f g h = refl
sum_same (suc n) f g h = omega (arith, sum_same n f g (λ d l. h d (omega arith)), h n (omega arith))

pub sum_le : (n : ℕ) (f g : ℕ → ℕ) → ((d : ℕ) → f d ≤ g d) → sum_below n f ≤ sum_below n g
unfolding sum_below
sum_le zero f g h = omega arith
sum_le (suc n) f g h = omega (arith, sum_le n f g h, h n)

pub sum-plus : (n : ℕ) (f g : ℕ → ℕ) → sum_below n (λ (d : ℕ). f d + g d) ≡ sum_below n f + sum_below n g
unfolding sum_below
sum-plus zero f g = refl
sum-plus (suc n) f g = omega (arith, sum-plus n f g)

pub sum_zero : (n : ℕ) (f : ℕ → ℕ) → ((d : ℕ) → f d ≡ 0) → sum_below n f ≡ 0
unfolding sum_below
sum_zero zero f h = refl
sum_zero (suc n) f h = omega (arith, sum_zero n f h, h n)

pub sum-has : (n : ℕ) (f : ℕ → ℕ) (c : ℕ) → c < n → f c ≤ sum_below n f
unfolding sum_below
sum-has zero f c l = absurd (omega arith)
sum-has (suc n) f c l = go (eqb n c) refl (λ m. sum-has n f c m)
  where
    go : (t : Bool) → eqb n c ≡ t → (c < n → f c ≤ sum_below n f) → f c ≤ sum_below n f + f n
    go true e ih = omega (arith, ap f (eqb-true n c e))
    go false e ih =
        let q : n ≡ c → ⊥ = eqb-false n c e in
        let m : c < n = omega arith in
        omega (arith, ih m)

-- Two that agree but at c.
pub sum_at : (n : ℕ) (f g : ℕ → ℕ) (c : ℕ) → c < n → ((d : ℕ) → (d ≡ c → ⊥) → f d ≡ g d) → sum_below n f + g c ≡ sum_below n g + f c
unfolding sum_below
sum_at zero f g c l h = absurd (omega arith)
sum_at (suc n) f g c l h = go (eqb n c) refl (λ m. sum_at n f g c m h)
  where
    go : (t : Bool) → eqb n c ≡ t → (c < n → sum_below n f + g c ≡ sum_below n g + f c)
        → (sum_below n f + f n) + g c ≡ (sum_below n g + g n) + f c
    go true e ih =
        let q : n ≡ c = eqb-true n c e in
        omega (arith, sum_same n f g (λ d m. h d (λ p. omega arith)), ap f q, ap g q)
    go false e ih =
        let q : n ≡ c → ⊥ = eqb-false n c e in
        let m : c < n = omega arith in
        omega (arith, ih m, h n q)
