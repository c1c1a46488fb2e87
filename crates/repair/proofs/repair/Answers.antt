-- `repair::repair` meets its contract: the outcomes are those of Outcomes, and an output of three times the text is long enough.
use mathlib.Core.Path.{◌∙◌}
use native.Mathlib.Nat.{zero-add}
use native.Mathlib.Omega.{arith}
use Rattle.base.proofs.Answering.{ends_as}
use Rattle.repair.proofs.Outcomes.{done, too_long}
use Rattle.repair.proofs.Repairing.{stretches, times}
use Rattle.repair.proofs.repair.Goals as goal

pub returns-then-text-gt-TEXT_LIMIT : goal.returns-then-text-gt-TEXT_LIMIT
returns-then-text-gt-TEXT_LIMIT c = let x = c.args in ends_as (too_long x.text.now x.out.now c.if-text-gt-TEXT_LIMIT.true)

pub repair_measured-requires : goal.repair_measured-requires
repair_measured-requires c = omega (arith, c.if-text-gt-TEXT_LIMIT.false)

pub returns-then-out-text : goal.returns-then-out-text
returns-then-out-text c = ends_as c.repair_measured.ensures

pub write_repaired-requires : goal.write_repaired-requires
write_repaired-requires c =
    let x = c.args in
    (omega (arith, c.if-text-gt-TEXT_LIMIT.false), omega (arith, c.if-out-text.false, times (stretches x.text.now)))

pub returns : goal.returns
returns c =
    let w = c.write_repaired.ensures in
    let x = c.args in
    ends_as (done x.text.now x.out.now (omega (arith, c.if-text-gt-TEXT_LIMIT.false)) _ _ (w.len.ends ∙ zero-add _) w.replaced
    (omega (arith, c.if-out-text.false, times (stretches x.text.now), w.len.ends)) w.len)
