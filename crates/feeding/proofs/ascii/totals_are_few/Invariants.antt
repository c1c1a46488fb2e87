-- `feeding::ascii::totals_are_few` meets its contract. The loop's invariant: the words so far pass.
use Prim.Native.Nat.{ℕ, ◌-◌, ◌<◌, ◌≤◌}
use Rattle.base.specs.Words.{word_at}
use Rattle.base.specs.Refusals.{text_limit}
use Rattle.feeding.proofs.ascii.totals_are_few.Given as goal

abbrev pub invariant-loop-k : goal.invariant-loop-k
invariant-loop-k l = (7 ≤ l.k) × (l.k ≤ 15) × ((j : ℕ) → 7 ≤ j → j < l.k → word_at j l.feed ≤ text_limit)

abbrev pub decreases-loop-k : goal.decreases-loop-k
decreases-loop-k l = 15 - l.k
