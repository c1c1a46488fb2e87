-- `text_pass::findings::next_finding` meets its contract. The loop's invariant: all findings before `at` are passed and counted. The
-- measure is the number of bytes after `at`.
use Prim.Native.Nat.{◌-◌}
use lib.ListN.{length}
use Rattle.policy.specs.PolicyBytes.{policy_of}
use Rattle.text_pass.specs.Findings.{FindingsBetween}
use Rattle.text_pass.proofs.findings.next_finding.Given as goal

abbrev pub invariant-loop-limit : goal.invariant-loop-limit
invariant-loop-limit l = FindingsBetween (policy_of l.policy) l.text l.limit l.from l.at l.passed

abbrev pub decreases-loop-limit : goal.decreases-loop-limit
decreases-loop-limit l = length l.text - l.at
