-- `replacing::measure::measure_cells` meets its contract. The loop's invariant: the counts and the length so far, with those of the
-- slice from `at` on, are those of the whole slice (Measuring). The measure is the number of bytes after `at`.
use Prim.Native.Nat.{◌-◌}
use lib.ListN.{length}
use Rattle.analysis.proofs.Measuring.{Measuring}
use Rattle.replacing.proofs.measure.measure_cells.Given as goal

abbrev pub invariant-loop-policy : goal.invariant-loop-policy
invariant-loop-policy l = Measuring l.policy l.text l.at l.counts l.len

abbrev pub decreases-loop-policy : goal.decreases-loop-policy
decreases-loop-policy l = length l.text - l.at
