-- `ascii_runs::ascii_end` meets its contract. The loop's invariant: the bytes from the start up to `at` are a run of ASCII. The
-- measure is the number of bytes left.
use Prim.Native.Nat.{◌-◌}
use lib.ListN.{length}
use Rattle.ascii_runs.specs.Ascii.{AsciiRun}
use Rattle.ascii_runs.proofs.ascii_end.Given as goal

abbrev pub invariant-loop-at : goal.invariant-loop-at
invariant-loop-at l = AsciiRun l.s l.from l.at

abbrev pub decreases-loop-at : goal.decreases-loop-at
decreases-loop-at l = length l.s - l.at
