use mathlib.Core.Path.{◌∙◌, refl, sym}
use native.Mathlib.Omega.{arith}
use Rattle.sheet_reading.proofs.Checking.{check_begin, check_end, check_on, check_stop}
use Rattle.sheet_reading.proofs.check_sheet.Goals as goal

pub loop-at-init : goal.loop-at-init
loop-at-init c = check_begin c.args.s.now c.begin-c.ensures

pub returns-in-None : goal.returns-in-None
returns-in-None c =
    let k = c.loop-at.invariant in
    c.stopped_at.ensures _ k.state k.tracks
    ∙ sym (check_stop k (omega arith) (c.step_on.ensures
    c.loop-at.at k.state refl k.tracks) c.in-None.is)

pub loop-at-preserved : goal.loop-at-preserved
loop-at-preserved c =
    let k = c.loop-at.invariant in
    check_on k (omega arith) (c.step_on.ensures c.loop-at.at
    k.state refl k.tracks) c.in-Some.is

pub returns : goal.returns
returns c =
    let k = c.loop-at.invariant in
    c.ended_at.ensures k.state k.tracks ∙ sym (check_end k (omega arith))
