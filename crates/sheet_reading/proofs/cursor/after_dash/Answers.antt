-- `sheet_reading::cursor::after_dash` meets its contract.
use Rattle.sheet_reading.proofs.Tracked.{dash_tracks}
use Rattle.sheet_reading.proofs.cursor.after_dash.Goals as goal

pub returns : goal.returns
returns c r h = dash_tracks c.args.c c.args.next r h
