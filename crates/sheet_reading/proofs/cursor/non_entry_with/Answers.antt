-- `sheet_reading::cursor::non_entry_with` meets its contract.
use Rattle.sheet_reading.proofs.Tracked.{other_ranged, other_single}
use Rattle.sheet_reading.proofs.cursor.non_entry_with.Goals as goal

pub returns-in-Some : goal.returns-in-Some
returns-in-Some c r h =
    other_ranged c.args.c r h c.in-Some.is
    c.is_no_entry.ensures c.is_no_entry-last.ensures c.or_offset-earlier.ensures
    c.or_offset.ensures

pub returns-in-None : goal.returns-in-None
returns-in-None c r h =
    other_single c.args.c r h c.in-None.is
    c.is_no_entry-last.ensures c.or_offset-in-None.ensures
