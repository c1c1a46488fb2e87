-- `sheet_reading::cursor::descending_with` meets its contract.
use Rattle.sheet_reading.proofs.Tracked.{down_ranged, down_single}
use Rattle.sheet_reading.proofs.cursor.descending_with.Goals as goal

pub returns-in-Some : goal.returns-in-Some
returns-in-Some c r h = down_ranged c.args.c r h c.in-Some.is c.or_offset.ensures

pub returns-in-None : goal.returns-in-None
returns-in-None c r h = down_single c.args.c r h c.in-None.is
