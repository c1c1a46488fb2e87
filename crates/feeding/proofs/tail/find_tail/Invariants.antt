-- `feeding::tail::find_tail` meets its contract. The loop's invariant: from `at` on there are only selectors.
use Rattle.feeding.proofs.Tails.{Backing}
use Rattle.feeding.proofs.tail.find_tail.Given as goal

abbrev pub invariant-loop-at : goal.invariant-loop-at
invariant-loop-at l = Backing l.text l.from l.to l.at

abbrev pub decreases-loop-at : goal.decreases-loop-at
decreases-loop-at l = l.at
