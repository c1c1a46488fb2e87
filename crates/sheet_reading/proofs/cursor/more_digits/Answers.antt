-- `sheet_reading::cursor::more_digits` meets its contract.
use Rattle.sheet_reading.proofs.Tracked.{digit_tracks}
use Rattle.sheet_reading.proofs.cursor.more_digits.Goals as goal

pub returns : goal.returns
returns c r h =
    digit_tracks c.args.c c.args.d
    c.requires.0 c.requires.1 r h
