-- `feeding::put_char` meets its contract: if there is room for a scalar value, `write_char` writes it.
use Rattle.std.proofs.Common.{arith}
use Rattle.analysis.proofs.Rendering.{char_put, not_error, width_is}
use Rattle.feeding.proofs.put_char.Goals as goal

pub overflow_add-result : goal.overflow_add-result
overflow_add-result c =
    let x = c.args in
    let w = c.write_char in
    let r = c.requires.1 in
    omega (arith, width_is x.ch x.out.now x.at c.requires.0 r w.result w.ensures.answer.same c.in-Ok.width c.in-Ok.is)

pub returns-in-Ok : goal.returns-in-Ok
returns-in-Ok c =
    let x = c.args in
    let w = c.write_char in
    char_put x.ch x.out.now x.at c.requires.0 c.requires.1 w.result w.ensures.answer.same c.in-Ok.width _ c.in-Ok.is
    w.ensures.buffer

pub returns-in-Err : goal.returns-in-Err
returns-in-Err c =
    let x = c.args in
    let w = c.write_char in
    absurd (not_error x.ch x.out.now x.at c.requires.0 c.requires.1 w.result w.ensures.answer.same _ c.in-Err.is)
