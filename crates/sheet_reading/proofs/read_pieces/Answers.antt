use mathlib.Core.Path.{refl}
use native.Mathlib.Omega.{arith}
use Rattle.sheet_reading.proofs.PieceSets.{take_begin, take_end, take_on, take_stop}
use Rattle.sheet_reading.proofs.read_pieces.Goals as goal

pub loop-at-init : goal.loop-at-init
loop-at-init c = take_begin c.args.s.now c.begin-c.ensures c.no_pieces-p.ensures

pub returns-in-None : goal.returns-in-None
returns-in-None c =
    let k = c.loop-at.invariant in
    take_stop k (omega arith) (c.step_on.ensures c.loop-at.at
    k.checking.state refl k.checking.tracks) c.in-None.is

pub overflow_add-at : goal.overflow_add-at
overflow_add-at c = omega (arith, c.well_formed.0.0)

pub loop-at-preserved : goal.loop-at-preserved
loop-at-preserved c =
    let k = c.loop-at.invariant in
    take_on k (omega arith) (c.step_on.ensures
    c.loop-at.at k.checking.state refl k.checking.tracks)
    c.in-Some.is c.with_closed-p.ensures

pub returns : goal.returns
returns c = take_end c.loop-at.invariant (omega arith)
