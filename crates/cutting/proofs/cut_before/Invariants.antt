-- `cutting::cut_before` meets its contract. The invariant: the largest cut below the offset `at` is the answer.
use mathlib.Core.Path.{◌≡◌}
use Prim.Native.Nat.{◌≤◌}
use lib.ListN.{length}
use Rattle.cutting.specs.Cut.{cut_before, cut_below}
use Rattle.cutting.proofs.cut_before.Given as goal

abbrev pub invariant-loop-at : goal.invariant-loop-at
invariant-loop-at l = (l.at ≤ length l.text) × (cut_before l.text l.offset ≡ cut_below l.text l.at)

abbrev pub decreases-loop-at : goal.decreases-loop-at
decreases-loop-at l = l.at
