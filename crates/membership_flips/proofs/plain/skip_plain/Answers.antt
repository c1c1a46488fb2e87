use native.Mathlib.Omega.{arith}
use Rattle.membership_flips.proofs.Skipping.{none_here, none-on}
use Rattle.membership_flips.proofs.plain.skip_plain.Goals as goal

pub loop-at-init : goal.loop-at-init
loop-at-init c = none_here _

pub returns-then-next-at : goal.returns-then-next-at
returns-then-next-at c = c.loop-at.invariant

pub loop-at-smaller : goal.loop-at-smaller
loop-at-smaller c =
    let a = c.skip_ascii.ensures.advances in
    let s = c.skip_letters-next.ensures.advances in
    omega (arith, a.on, s.on, a.inside (omega arith), s.inside (a.inside (omega arith)), c.if-next-at.false)

pub loop-at-preserved : goal.loop-at-preserved
loop-at-preserved c =
    none-on (none-on c.loop-at.invariant c.skip_ascii.ensures)
    c.skip_letters-next.ensures

pub returns : goal.returns
returns c = c.loop-at.invariant
