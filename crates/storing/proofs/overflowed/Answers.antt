use native.Mathlib.Omega.{arith}
use Rattle.storing.proofs.Sums.{sum_done, sum_more, sum-none}
use Rattle.storing.proofs.overflowed.Goals as goal

pub loop-c-init : goal.loop-c-init
loop-c-init c = sum-none _

pub loop-c-preserved : goal.loop-c-preserved
loop-c-preserved c = sum_more _ _ _ _ _ c.loop-c.invariant c.overflow.ensures c.saturating_add-sum.ensures

pub returns : goal.returns
returns c = sum_done _ c.loop-c.c _ (omega arith) c.loop-c.invariant
