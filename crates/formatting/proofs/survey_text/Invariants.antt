-- `formatting::survey_text` meets its contract. The loop's invariant: the length so far and that of the rest are the whole length, and
-- `change` is the next change from `at` on. The measure is the number of bytes after `at`.
use Prim.Native.Nat.{◌-◌}
use lib.ListN.{length}
use Rattle.policy.specs.PolicyBytes.{policy_of}
use Rattle.text_pass.specs.Changes.{NextChange}
use Rattle.formatting.proofs.Surveying.{Surveying}
use Rattle.formatting.proofs.survey_text.Given as goal

abbrev pub invariant-loop-change : goal.invariant-loop-change
invariant-loop-change l = Surveying (policy_of l.policy) l.text l.at l.len × NextChange (policy_of l.policy) l.text l.at l.change

abbrev pub decreases-loop-change : goal.decreases-loop-change
decreases-loop-change l = length l.text - l.at
