-- `replacing::choice::next_choice` meets its contract. The loop's invariant: the first choice from `start` on is the first choice
-- from `at` on. The measure is the number of bytes after `start`.
use mathlib.Core.Path.{◌≡◌}
use Prim.Native.Nat.{◌-◌}
use lib.ListN.{length}
use Rattle.analysis.specs.ChoicesAt.{choice_at}
use Rattle.replacing.proofs.choice.next_choice.Given as goal

abbrev pub invariant-loop-seen : goal.invariant-loop-seen
invariant-loop-seen l = choice_at l.policy l.raw l.at ≡ choice_at l.policy l.raw l.start

abbrev pub decreases-loop-seen : goal.decreases-loop-seen
decreases-loop-seen l = length l.raw - l.start
