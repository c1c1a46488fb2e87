-- `sheet_reading::cursor::is_no_entry` meets its contract.
use mathlib.Core.Path.{ap}
use mathlib.Core.Bool.{not}
use Rattle.sheet_reading.proofs.cursor.is_no_entry.Goals as goal

pub returns : goal.returns
returns c = ap not c.has_variation_sequence_by_block.ensures
