-- `text_pass::plain::skip_letters` meets its contract. The loop's invariant: there is plain text up to `at`. The measure is the number of
-- bytes after `at`.
use Prim.Native.Nat.{◌-◌}
use lib.ListN.{length}
use Rattle.policy.specs.declared.Policy.{Policy}
use Rattle.text_pass.specs.Findings.{PlainBetween}
use Rattle.text_pass.proofs.plain.skip_letters.Given as goal

abbrev pub invariant-loop-at : goal.invariant-loop-at
invariant-loop-at l = (p : Policy) → PlainBetween p l.text l.from l.at

abbrev pub decreases-loop-at : goal.decreases-loop-at
decreases-loop-at l = length l.text - l.at
