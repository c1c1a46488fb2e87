-- `sheet_reading::cursor::begin` meets its contract.
use mathlib.Core.Path.{refl}
use mathlib.Core.List.{[]}
use Rattle.policy_sheet.specs.Reader.{first_descending, first_non_entry}
use Rattle.sheet_reading.specs.Tracking.{found}
use Rattle.sheet_reading.proofs.cursor.begin.Goals as goal

pub returns : goal.returns
unfolding found first_descending first_non_entry
returns c = c.before_piece.ensures [] refl refl
