use native.Mathlib.Omega.{arith}
use Rattle.utf8.proofs.Packed.{step_len, stop_len}
use Rattle.utf8_validity.proofs.valid_up_to.Goals as goal

pub returns-then-width-eq0 : goal.returns-then-width-eq0
returns-then-width-eq0 c =
    let w = c.char_len-width in
    let k = stop_len c.args.s.now c.loop-at.at w.result w.ensures
    c.if-width-eq0.true in
    omega arith

pub overflow_add-at : goal.overflow_add-at
overflow_add-at c =
    let w = c.char_len-width in
    let k = (step_len c.args.s.now c.loop-at.at w.result w.ensures
    (omega arith)).on in
    omega arith

pub loop-at-smaller : goal.loop-at-smaller
loop-at-smaller c =
    let w = c.char_len-width in
    let k = (step_len c.args.s.now c.loop-at.at w.result w.ensures
    (omega arith)).on in
    let r = c.width_end-at.ensures.inside k.room in
    omega (arith, r.forward)

pub loop-at-preserved : goal.loop-at-preserved
loop-at-preserved c =
    let w = c.char_len-width in
    let k = (step_len c.args.s.now c.loop-at.at w.result w.ensures
    (omega arith)).on in
    let r = c.width_end-at.ensures.inside k.room in
    omega (arith, r.inside, r.same_end)
