use native.Mathlib.Omega.{arith}
use Rattle.feeding.proofs.Tails.{widening_begin, widening_done, widening_fits, widening_on}
use Rattle.feeding.proofs.tail.last_char.Goals as goal

pub loop-width-init : goal.loop-width-init
loop-width-init c = widening_begin c.requires.0 c.requires.1

pub overflow_sub-to : goal.overflow_sub-to
overflow_sub-to c = (widening_fits c.loop-width.invariant).0

pub overflow_sub-result : goal.overflow_sub-result
overflow_sub-result c = (widening_fits c.loop-width.invariant).0

pub returns-then-char_len-width : goal.returns-then-char_len-width
returns-then-char_len-width c = widening_done c.loop-width.invariant c.char_len.result c.char_len.ensures c.if-char_len-width.true

pub overflow_add-width : goal.overflow_add-width
overflow_add-width c = omega (arith, (widening_fits c.loop-width.invariant).1)

pub loop-width-smaller : goal.loop-width-smaller
loop-width-smaller c = omega (arith, (widening_fits c.loop-width.invariant).1)

pub loop-width-preserved : goal.loop-width-preserved
loop-width-preserved c = widening_on c.loop-width.invariant c.char_len.result c.char_len.ensures c.if-char_len-width.false
