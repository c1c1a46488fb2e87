-- `findings_near::nearest::nearest_in` meets its contract. The loop keeps the nearest of the findings that start before `at`.
use Prim.Native.Nat.{◌-◌}
use lib.ListN.{length}
use Rattle.policy.specs.PolicyBytes.{policy_of}
use Rattle.findings_near.proofs.NearestPass.{Nearing}
use Rattle.findings_near.proofs.nearest.nearest_in.Given as goal

abbrev pub invariant-loop-finding : goal.invariant-loop-finding
invariant-loop-finding l = Nearing (policy_of l.policy) l.text l.offset l.best l.at l.before

abbrev pub decreases-loop-finding : goal.decreases-loop-finding
decreases-loop-finding l = length l.text - l.at
