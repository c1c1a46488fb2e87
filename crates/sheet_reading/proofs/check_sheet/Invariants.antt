-- `sheet_reading::check_sheet` meets its contract. The loop's invariant: what is left to be read goes on from the cursor.
use Rattle.sheet_reading.proofs.Checking.{Checking}
use Rattle.sheet_reading.proofs.check_sheet.Given as goal

abbrev pub invariant-loop-at : goal.invariant-loop-at
invariant-loop-at l = Checking l.s l.c l.at
