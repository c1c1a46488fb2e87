-- `sheet_reading::sets::first_of` meets its contract.
use Rattle.sheet_reading.proofs.PieceSets.{first_ranged_value, first_single_value}
use Rattle.sheet_reading.proofs.sets.first_of.Goals as goal

pub returns-in-Some : goal.returns-in-Some
returns-in-Some c r h = first_ranged_value c.args.c r h c.in-Some.is

pub returns-in-None : goal.returns-in-None
returns-in-None c r h = first_single_value c.args.c r h c.in-None.is
