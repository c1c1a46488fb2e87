-- `emoji::entry_in` meets its contract, by whether the character's bit is 1.
use mathlib.Core.Path.{sym}
use Rattle.emoji.specs.Blocks.{entry_in}
use Rattle.emoji.proofs.entry_in.Goals as goal

pub returns-then-has_bit : goal.returns-then-has_bit
unfolding entry_in
returns-then-has_bit c = simp (sym c.has_bit.ensures, c.if-has_bit.true, c.ones_below.ensures.0)

pub returns-else-has_bit : goal.returns-else-has_bit
unfolding entry_in
returns-else-has_bit c = simp (sym c.has_bit.ensures, c.if-has_bit.false)
