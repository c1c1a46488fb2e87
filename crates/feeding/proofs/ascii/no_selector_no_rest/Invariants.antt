-- `feeding::ascii::no_selector_no_rest` meets its contract. The loop's invariant: the words so far pass.
use mathlib.Core.Path.{◌≡◌}
use Prim.Native.Nat.{ℕ, ◌-◌, ◌<◌, ◌≤◌}
use Rattle.base.specs.Words.{word_at}
use Rattle.feeding.proofs.ascii.no_selector_no_rest.Given as goal

abbrev pub invariant-loop-k : goal.invariant-loop-k
invariant-loop-k l = (2 ≤ l.k) × (l.k ≤ 6) × ((j : ℕ) → 2 ≤ j → j < l.k → word_at j l.feed ≡ 0)

abbrev pub decreases-loop-k : goal.decreases-loop-k
decreases-loop-k l = 6 - l.k
