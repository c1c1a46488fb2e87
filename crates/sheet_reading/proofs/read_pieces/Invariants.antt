-- `sheet_reading::read_pieces` meets its contract. The loop's invariant: what is left to be read goes on from the cursor, and the sets hold
-- the pieces that were closed.
use Rattle.sheet_reading.proofs.PieceSets.{Taking}
use Rattle.sheet_reading.proofs.read_pieces.Given as goal

abbrev pub invariant-loop-at : goal.invariant-loop-at
invariant-loop-at l = Taking l.s l.c l.p l.at
