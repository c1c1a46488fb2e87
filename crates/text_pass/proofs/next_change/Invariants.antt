-- `text_pass::next_change` meets its contract. The loop's invariant: formatting keeps all bytes up to `at`. The measure is the number of
-- bytes after `at`.
use Prim.Native.Nat.{◌-◌}
use lib.ListN.{length}
use Rattle.policy.specs.PolicyBytes.{policy_of}
use Rattle.text_pass.specs.Changes.{UnchangedBetween}
use Rattle.text_pass.proofs.next_change.Given as goal

abbrev pub invariant-loop-from : goal.invariant-loop-from
invariant-loop-from l = UnchangedBetween (policy_of l.policy) l.text l.from l.at

abbrev pub decreases-loop-from : goal.decreases-loop-from
decreases-loop-from l = length l.text - l.at
