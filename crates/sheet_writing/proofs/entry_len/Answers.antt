-- `sheet_writing::entry_len` meets its contract.
use native.Mathlib.Omega.{arith}
use mathlib.Core.Path.{◌∙◌, ap}
use lib.ListN.{length}
use Rattle.sheet_writing.proofs.EntryTexts.{entry_first, entry_inside, entry_last, entry_more, entry_out, one_longer, point_length}
use Rattle.sheet_writing.proofs.entry_len.Goals as goal

pub returns-then-next : goal.returns-then-next
returns-then-next c = (
  ap length (entry_inside c.args.any c.args.ch
      c.if-here.true c.if-before.true c.if-next.true),
  omega arith,
)

pub returns-then-before : goal.returns-then-before
returns-then-before c = (
  one_longer _ 0x2D c.args.ch c.digits_of-width.ensures.0
      ∙ ap length (entry_last c.args.any c.args.ch
      c.if-here.true c.if-before.true c.if-next.false),
  omega
      (arith, c.digits_of-width.ensures.1),
)

pub returns-then-any : goal.returns-then-any
returns-then-any c = (
  one_longer _ 0x2C c.args.ch c.digits_of-width.ensures.0
      ∙ ap length (entry_more c.args.next c.args.ch
      c.if-here.true c.if-before.false c.if-any.true),
  omega
      (arith, c.digits_of-width.ensures.1),
)

pub returns-then-here : goal.returns-then-here
returns-then-here c = (
  point_length _ c.args.ch c.digits_of-width.ensures.0
      ∙ ap length (entry_first c.args.next c.args.ch
      c.if-here.true c.if-before.false c.if-any.false),
  omega (arith, c.digits_of-width.ensures.1),
)

pub returns : goal.returns
returns c = (
  ap length (entry_out c.args.before c.args.any c.args.next
      c.args.ch c.if-here.false),
  omega arith,
)
