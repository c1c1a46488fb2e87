-- `sheet_reading::cursor::digit_step` meets its contract.
use native.Mathlib.Omega.{arith}
use Rattle.sheet_reading.proofs.Tracked.{digit-on, digit_stop}
use Rattle.sheet_reading.proofs.cursor.digit_step.Goals as goal

pub returns-then-c-lt6 : goal.returns-then-c-lt6
returns-then-c-lt6 c at r h =
    digit-on c.args.c at r h c.args.d (omega arith)
    (c.more_digits.ensures r h)

pub returns : goal.returns
returns c at r h = digit_stop c.args.c at r h c.args.d (omega arith)
