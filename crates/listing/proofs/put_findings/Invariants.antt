-- `listing::put_findings` meets its contract. The loop's invariant: the count held is the position of `at`, and the rows of the findings
-- from `at` on are still to be written.
use Prim.Native.Nat.{◌-◌, ◌≤◌}
use lib.ListN.{length}
use Rattle.base.specs.Tables.{rows_bytes}
use Rattle.base.proofs.Writer.{Writing}
use Rattle.policy.specs.PolicyBytes.{policy_of}
use Rattle.positions.specs.Positions.{AtPosition}
use Rattle.formatter.specs.List.{row_numbers}
use Rattle.formatter.proofs.Steps.{rows_from}
use Rattle.listing.proofs.put_findings.Given as goal

abbrev pub invariant-loop-before : goal.invariant-loop-before
invariant-loop-before l = (l.at ≤ length l.text)
    × AtPosition l.text l.at l.before
    × Writing (rows_bytes row_numbers (rows_from (policy_of l.policy) l.text 0)) 0 l.initial.table
    (rows_bytes row_numbers (rows_from (policy_of l.policy) l.text l.at)) l.table l.to

abbrev pub decreases-loop-before : goal.decreases-loop-before
decreases-loop-before l = length l.text - l.at
