use Prim.Native.Nat.{ℕ, ◌≤◌}
use native.Mathlib.Omega.{arith}
use lib.ListN.{get_or}
use borrow.Author.Tests.{leb-true}
use Rattle.feeding.proofs.Copying.{and_next}
use Rattle.feeding.proofs.ascii.is_ascii.Goals as goal

pub loop-i-init : goal.loop-i-init
loop-i-init c = (omega arith, λ j h l. absurd (omega arith))

pub loop-i-preserved : goal.loop-i-preserved
loop-i-preserved c =
    let l = c.loop-i in
    let x = c.args in
    let m = c.max-top.ensures in (
      omega arith,
      and_next (λ (n : ℕ). get_or x.s.now n 0 ≤ c.max-top.result) (λ j a b. omega (arith, l.invariant.1 j a b, m)) (omega (arith, m)),
    )

pub returns : goal.returns
returns c = λ e k h. let l = c.loop-i in omega (arith, l.invariant.1 k (omega arith) (omega arith), leb-true l.top 0x7F e)
