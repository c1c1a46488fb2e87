-- `formatting::put_changes` meets its contract. The loop's invariant: what formatting makes of the text from `at` on is still to be
-- written, from `to` on, and `change` is the next change from `at` on. The measure is the number of bytes after `at`.
use lib.ListN.{length}
use Prim.Native.Nat.{◌-◌, ◌≤◌}
use Rattle.base.proofs.Writer.{Writing}
use Rattle.policy.specs.PolicyBytes.{policy_of}
use Rattle.text_pass.specs.Changes.{NextChange, formatted_from}
use Rattle.formatting.proofs.put_changes.Given as goal

abbrev pub invariant-loop-change : goal.invariant-loop-change
invariant-loop-change l = (l.at ≤ length l.text) × Writing (formatted_from (policy_of l.policy) l.text l.from) l.start l.initial.out
    (formatted_from (policy_of l.policy) l.text l.at) l.out l.to
    × NextChange (policy_of l.policy) l.text l.at l.change

abbrev pub decreases-loop-change : goal.decreases-loop-change
decreases-loop-change l = length l.text - l.at
