-- `utf8_validity::runs::long_end` meets its contract. The loop's invariant: what was passed is characters. The measure is the
-- number of bytes left.
use Prim.Native.Nat.{◌-◌}
use lib.ListN.{length}
use Rattle.utf8_validity.specs.Runs.{CharsBetween}
use Rattle.utf8_validity.proofs.runs.long_end.Given as goal

abbrev pub invariant-loop-at : goal.invariant-loop-at
invariant-loop-at l = CharsBetween l.s l.from l.at

abbrev pub decreases-loop-at : goal.decreases-loop-at
decreases-loop-at l = length l.s - l.at
