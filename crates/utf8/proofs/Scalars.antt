-- Scalar values from their bounds.
use mathlib.Core.Path.{◌≡◌}
use mathlib.Core.Logic.{◌⊎◌, inl, inr, ⊎_elim}
use mathlib.Core.Bool.{true}
use Prim.Native.Nat.{ℕ, ◌≤◌}
use native.Mathlib.Omega.{arith}
use borrow.Author.Tests.{le-leb, lt-leb}
use Rattle.utf8.specs.Rfc3629.{is_scalar}
use Rattle.base.proofs.Tests.{either_true, within_in}

pub is_scalar_low : (v : ℕ) → v ≤ 0xD7FF → is_scalar v ≡ true
unfolding is_scalar
is_scalar_low v h = simp (le-leb 0 v (omega arith), le-leb v 0xD7FF h)

pub is_scalar-high : (v : ℕ) → 0xE000 ≤ v → v ≤ 0x10FFFF → is_scalar v ≡ true
unfolding is_scalar
is_scalar-high v l h = simp (le-leb 0 v (omega arith), lt-leb v 0xD7FF (omega arith), le-leb 0xE000 v l, le-leb v 0x10FFFF h)

pub is_scalar-bounds : (v : ℕ) → is_scalar v ≡ true → (v ≤ 0xD7FF) ⊎ ((0xE000 ≤ v) × (v ≤ 0x10FFFF))
unfolding is_scalar
is_scalar-bounds v e =
    ⊎_elim (λ p. inl (within_in 0 0xD7FF v p).high)
    (λ p. let q = within_in 0xE000 0x10FFFF v p in inr (q.low, q.high))
    (either_true _ _ e)

pub is_scalar_le : (v : ℕ) → is_scalar v ≡ true → v ≤ 0x10FFFF
is_scalar_le v e = ⊎_elim (λ p. omega arith) (λ p. p.1) (is_scalar-bounds v e)
