-- `findings_near::around::put_both` meets its contract. The loop has written the findings of both lists that start before `at`.
use Prim.Native.Nat.{◌-◌}
use lib.ListN.{length}
use Rattle.positions.specs.Positions.{AtPosition}
use Rattle.policy.specs.PolicyBytes.{policy_of}
use Rattle.findings_near.specs.Around.{inside, only_shares}
use Rattle.findings_near.proofs.AroundPass.{Filling}
use Rattle.findings_near.proofs.around.put_both.Given as goal

abbrev pub invariant-loop-before : goal.invariant-loop-before
invariant-loop-before l = AtPosition l.text l.at l.before
    × Filling (policy_of l.policy) l.text (inside l.from l.to) l.initial.inner l.inner l.at l.inner_to
    × Filling (policy_of l.policy) l.text (only_shares l.from l.to) l.initial.outer l.outer l.at l.outer_to

abbrev pub decreases-loop-before : goal.decreases-loop-before
decreases-loop-before l = length l.text - l.at
