-- `utf8_validity::runs::short_end` meets its contract. The loop's invariant: what was passed is characters. The measure is the
-- number of bytes left.
use Prim.Native.Nat.{◌-◌, ◌≤◌}
use lib.ListN.{length}
use Rattle.utf8_validity.specs.Runs.{CharsBetween}
use Rattle.utf8_validity.proofs.runs.short_end.Given as goal

abbrev pub invariant-loop-ascii : goal.invariant-loop-ascii
invariant-loop-ascii l = CharsBetween l.s l.from l.at × (l.ascii ≤ 3)

abbrev pub decreases-loop-ascii : goal.decreases-loop-ascii
decreases-loop-ascii l = length l.s - l.at
