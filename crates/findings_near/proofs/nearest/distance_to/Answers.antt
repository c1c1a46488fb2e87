-- `findings_near::nearest::distance_to` meets its contract: the offset is before, after or inside the finding.
use mathlib.Core.Path.{sym}
use native.Mathlib.Omega.{arith}
use Rattle.findings_near.proofs.Distances.{distance_is}
use Rattle.findings_near.proofs.nearest.distance_to.Goals as goal

pub returns-then-offset-finding : goal.returns-then-offset-finding
returns-then-offset-finding c = sym ((distance_is c.args.offset c.args.finding c.requires).before c.if-offset-finding.true)

pub returns-then-finding-offset : goal.returns-then-finding-offset
returns-then-finding-offset c = sym ((distance_is c.args.offset c.args.finding c.requires).after c.if-finding-offset.true)

pub returns : goal.returns
returns c =
    sym ((distance_is c.args.offset c.args.finding c.requires).within (omega (arith, c.if-offset-finding.false))
    (omega (arith, c.if-finding-offset.false)))
