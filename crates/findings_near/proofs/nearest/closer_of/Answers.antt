-- `findings_near::nearest::closer_of` meets its contract.
use mathlib.Core.Path.{subst}
use native.Mathlib.Omega.{arith}
use Rattle.findings_near.specs.Helpers.{HasByte}
use Rattle.findings_near.proofs.NearestPass.{closer-first, closer-new, closer-old}
use Rattle.findings_near.proofs.nearest.closer_of.Goals as goal

pub returns-in_default : goal.returns-in_default
returns-in_default c = let x = c.args in closer-first x.offset x.finding c.in_default.is

pub distance_to-old-requires : goal.distance_to-old-requires
distance_to-old-requires c = subst HasByte c.in-Some.is c.requires.0

pub returns-then-old-new : goal.returns-then-old-new
returns-then-old-new c =
    let x = c.args in
    closer-old x.offset x.finding c.in-Some.best c.in-Some.is c.distance_to-old.ensures c.distance_to-new.ensures c.if-old-new.true

pub returns-else-old-new : goal.returns-else-old-new
returns-else-old-new c =
    let x = c.args in
    closer-new x.offset x.finding c.in-Some.best c.in-Some.is c.distance_to-old.ensures c.distance_to-new.ensures
    (omega (arith, c.if-old-new.false))
