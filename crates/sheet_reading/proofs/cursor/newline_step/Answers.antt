-- `sheet_reading::cursor::newline_step` meets its contract.
use mathlib.Core.Path.{refl}
use Rattle.sheet_reading.proofs.Tracked.{newline_empty, newline_on, newline_stop}
use Rattle.sheet_reading.proofs.cursor.newline_step.Goals as goal

pub returns-then-is_allowed : goal.returns-then-is_allowed
returns-then-is_allowed c at r n h =
    newline_on c.args.c at r h
    c.is_allowed.ensures c.if-is_allowed.true n refl
    (c.before_piece.ensures _ (c.descending_with-descending.ensures r h) (c.non_entry_with-stray.ensures r h))

pub returns-then-c : goal.returns-then-c
returns-then-c c at r n h =
    newline_empty c.args.c at r h
    c.is_allowed.ensures c.if-is_allowed.false
    c.if-c.true n refl (c.before_piece-then-c.ensures _ h.descending h.stray)

pub returns : goal.returns
returns c at r n h =
    newline_stop c.args.c at r h c.is_allowed.ensures
    c.if-is_allowed.false c.if-c.false
