-- `text_pass::findings::walk_items` meets its contract. The loop's invariant is `Walking`; the measure is the number of bytes after `at`.
use Prim.Native.Nat.{◌-◌}
use lib.ListN.{length}
use Rattle.policy.specs.PolicyBytes.{policy_of}
use Rattle.text_pass.proofs.Walking.{Walking}
use Rattle.text_pass.proofs.findings.walk_items.Given as goal

abbrev pub invariant-loop-changed : goal.invariant-loop-changed
invariant-loop-changed l = Walking (policy_of l.policy) l.text l.limit l.from l.start l.base l.index l.at l.state l.changed l.passed
    l.counts

abbrev pub decreases-loop-changed : goal.decreases-loop-changed
decreases-loop-changed l = length l.text - l.at
