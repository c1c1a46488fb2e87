-- `feeding::ascii::is_ascii` meets its contract. The loop's invariant: no byte so far is above `top`.
use Prim.Native.Nat.{ℕ, ◌-◌, ◌<◌, ◌≤◌}
use lib.ListN.{get_or, length}
use Rattle.feeding.proofs.ascii.is_ascii.Given as goal

abbrev pub invariant-loop-i : goal.invariant-loop-i
invariant-loop-i l = (l.i ≤ length l.s) × ((j : ℕ) → 0 ≤ j → j < l.i → get_or l.s j 0 ≤ l.top)

abbrev pub decreases-loop-i : goal.decreases-loop-i
decreases-loop-i l = length l.s - l.i
