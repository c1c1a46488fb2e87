-- `sheet_reading::cursor::comma_step` meets its contract.
use mathlib.Core.Path.{refl}
use Rattle.sheet_reading.proofs.Tracked.{comma_on, comma_stop}
use Rattle.sheet_reading.proofs.cursor.comma_step.Goals as goal

pub returns-then-is_allowed : goal.returns-then-is_allowed
returns-then-is_allowed c at r n h =
    comma_on c.args.c at r h
    c.is_allowed.ensures c.if-is_allowed.true n refl
    (c.before_piece.ensures _ (c.descending_with-descending.ensures r h) (c.non_entry_with-stray.ensures r h))

pub returns : goal.returns
returns c at r n h = comma_stop c.args.c at r h c.is_allowed.ensures c.if-is_allowed.false
