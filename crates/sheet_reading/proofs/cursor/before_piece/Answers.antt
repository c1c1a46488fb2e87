-- `sheet_reading::cursor::before_piece` meets its contract.
use Rattle.sheet_reading.proofs.Tracked.{before_tracks}
use Rattle.sheet_reading.proofs.cursor.before_piece.Goals as goal

pub returns : goal.returns
returns c r p q = before_tracks c.args.line c.args.next c.args.fresh c.args.descending c.args.stray r p q
