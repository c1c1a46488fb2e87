-- `sheet_reading::sets::bits_below` meets its contract.
use mathlib.Core.Path.{◌≡◌, ap, ◌∙◌}
use Prim.Native.Nat.{ℕ, ◌*◌, ◌-◌, ◌%◌, ◌^◌, ◌≤◌}
use native.Mathlib.Nat.{one-mul}
use native.Mathlib.Omega.{arith}
use lib.Pow.{shl_exact}
use Rattle.sheet_reading.proofs.RangeSets.{bits_all, bits_none, bits_some, positive}
use Rattle.sheet_reading.proofs.sets.bits_below.Goals as goal

shifted : (n : ℕ) → n ≤ 63 → 1 * 2 ^ n % 2 ^ 64 ≡ 2 ^ n
shifted n h = shl_exact 1 n 64 (omega arith) (omega arith) ∙ one-mul (2 ^ n)

pub returns-then-n-start : goal.returns-then-n-start
returns-then-n-start c k h = bits_none c.args.n c.args.start c.if-n-start.true k h

pub returns-then-start-n : goal.returns-then-start-n
returns-then-start-n c k h = bits_all c.args.n c.args.start c.if-start-n.true k h

pub overflow_sub-result-2 : goal.overflow_sub-result-2
overflow_sub-result-2 c =
    let a = c.args in
    omega (arith, shifted (a.n - a.start) (omega arith), positive (a.n - a.start))

pub returns : goal.returns
returns c k h =
    let a = c.args in
    bits_some a.n a.start (omega arith) (ap (λ (x : ℕ). x - 1) (shifted (a.n - a.start) (omega arith))) k h
