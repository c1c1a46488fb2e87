-- `feeding::take_selectors` meets its contract. The loop's invariant: the selectors before `at` are taken.
use Prim.Native.Nat.{◌-◌}
use lib.ListN.{length}
use Rattle.feeding.specs.Parts.{SelectorsTaken}
use Rattle.feeding.proofs.take_selectors.Given as goal

abbrev pub invariant-loop-presentation : goal.invariant-loop-presentation
invariant-loop-presentation l = SelectorsTaken l.piece l.from l.initial.taken l.at l.taken

abbrev pub decreases-loop-presentation : goal.decreases-loop-presentation
decreases-loop-presentation l = length l.piece - l.at
