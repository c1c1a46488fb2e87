-- `feeding::middle::text_totals` meets its contract. The loop's invariant: what was added up and the counts of the findings from `at` on
-- are the totals.
use Prim.Native.Nat.{◌-◌}
use lib.ListN.{length}
use Rattle.policy.specs.PolicyBytes.{policy_of}
use Rattle.feeding.proofs.Summing.{Summing}
use Rattle.feeding.proofs.middle.text_totals.Given as goal

abbrev pub invariant-loop-counts : goal.invariant-loop-counts
invariant-loop-counts l = Summing (policy_of l.policy) l.text l.at l.totals

abbrev pub decreases-loop-counts : goal.decreases-loop-counts
decreases-loop-counts l = length l.text - l.at
