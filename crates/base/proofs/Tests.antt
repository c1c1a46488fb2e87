-- Boolean tests and the facts that they decide: conjunction, disjunction, comparison, range.
use mathlib.Core.Path.{◌≡◌, refl, sym}
use mathlib.Core.Logic.{◌⊎◌, inl, inr}
use mathlib.Core.Bool.{Bool, true, false, beq, ◌&&◌, ◌||◌, not, true≢false}
use Prim.Native.Nat.{ℕ, ◌≤◌, ◌<◌}
use native.Mathlib.Omega.{arith}
use lib.Dec.{leb}
use borrow.Author.Tests.{leb-true, leb-false, le-leb, lt-leb}
use Rattle.base.specs.Ranges.{within}

pub both_true : (x y : Bool) → (x && y) ≡ true → (x ≡ true) × (y ≡ true)
both_true true y e = (refl, e)
both_true false y e = (e, cc)

pub and_both : (x y : Bool) → x ≡ true → y ≡ true → (x && y) ≡ true
and_both x y p q = rw (p, q)

pub either_true : (x y : Bool) → (x || y) ≡ true → (x ≡ true) ⊎ (y ≡ true)
either_true true y e = inl refl
either_true false y e = inr e

pub either_left : (x y : Bool) → x ≡ true → (x || y) ≡ true
either_left x y e = rw e

pub either-right : (x y : Bool) → y ≡ true → (x || y) ≡ true
either-right true y e = refl
either-right false y e = e

pub both_false : (x y : Bool) → (x || y) ≡ false → (x ≡ false) × (y ≡ false)
both_false true y e = absurd (true≢false e)
both_false false y e = (refl, e)

pub or_false : (b : Bool) → (b || false) ≡ b
or_false true = refl
or_false false = refl

pub not_so : (b : Bool) → not b ≡ true → b ≡ false
not_so true e = absurd (true≢false (sym e))
not_so false e = refl

-- A test that cannot be true is false.
pub fails : (x : Bool) → (x ≡ true → ⊥) → x ≡ false
fails true f = absurd (f refl)
fails false f = refl

-- Two tests that imply each other are equal.
pub same_test : (x y : Bool) → (x ≡ true → y ≡ true) → (y ≡ true → x ≡ true) → x ≡ y
same_test true y f g = sym (f refl)
same_test false true f g = g refl
same_test false false f g = refl

pub beq_so : (x y : Bool) → beq x y ≡ true → x ≡ y
beq_so true true e = refl
beq_so true false e = sym e
beq_so false true e = e
beq_so false false e = refl

pub so_beq : (x y : Bool) → x ≡ y → beq x y ≡ true
so_beq true true e = refl
so_beq true false e = sym e
so_beq false true e = e
so_beq false false e = refl

pub le_or_lt : (m n : ℕ) → (m ≤ n) ⊎ (n < m)
le_or_lt m n = go (leb m n) refl
  where
    go : (t : Bool) → leb m n ≡ t → (m ≤ n) ⊎ (n < m)
    go true e = inl (leb-true m n e)
    go false e = inr (leb-false m n e)

-- The number b is at least lo and at most hi.
pub record In (lo hi b : ℕ) : Type 0 where
  pub low : lo ≤ b
  pub high : b ≤ hi

pub within_in : (lo hi b : ℕ) → within lo hi b ≡ true → In lo hi b
within_in lo hi b e =
    let p = both_true (leb lo b) (leb b hi) e in
    record { low = leb-true lo b p.0; high = leb-true b hi p.1 }

pub within_true : (lo hi b : ℕ) → lo ≤ b → b ≤ hi → within lo hi b ≡ true
within_true lo hi b l h = simp (le-leb lo b l, le-leb b hi h)

pub within-above : (lo hi b : ℕ) → hi < b → within lo hi b ≡ false
within-above lo hi b h = fails (within lo hi b) (λ e. let i = within_in lo hi b e in omega arith)

pub within-below : (lo hi b : ℕ) → b < lo → within lo hi b ≡ false
within-below lo hi b h = simp (lt-leb lo b h)
