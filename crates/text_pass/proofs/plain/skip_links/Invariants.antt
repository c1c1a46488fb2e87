-- `text_pass::plain::skip_links` meets its contract. The loop's invariant: formatting keeps all bytes up to `at`. The measure is the number
-- of bytes after `at`.
use Prim.Native.Nat.{◌-◌}
use lib.ListN.{length}
use Rattle.policy.specs.declared.Policy.{Policy}
use Rattle.text_pass.specs.Changes.{UnchangedBetween}
use Rattle.text_pass.proofs.plain.skip_links.Given as goal

abbrev pub invariant-loop-at : goal.invariant-loop-at
invariant-loop-at l = (p : Policy) → UnchangedBetween p l.text l.from l.at

abbrev pub decreases-loop-at : goal.decreases-loop-at
decreases-loop-at l = length l.text - l.at
