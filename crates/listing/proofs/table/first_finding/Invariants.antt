-- `listing::table::first_finding` meets its contract. The loop's invariant: if the given numbers are the position of `start`, then the
-- numbers held are the position of `at`, and the findings from `at` on are those from `start` on.
use mathlib.Core.Path.{◌≡◌}
use Prim.Native.Nat.{◌-◌}
use lib.ListN.{length}
use Rattle.positions.specs.Positions.{AtPosition}
use Rattle.formatter.proofs.Steps.{rows_from}
use Rattle.listing.proofs.table.first_finding.Given as goal

abbrev pub invariant-loop-end : goal.invariant-loop-end
invariant-loop-end l = AtPosition l.text l.start l.fn.before
    → AtPosition l.text l.at l.before × (rows_from l.policy l.text l.start ≡ rows_from l.policy l.text l.at)

abbrev pub decreases-loop-end : goal.decreases-loop-end
decreases-loop-end l = length l.text - l.at
