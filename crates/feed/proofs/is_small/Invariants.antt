-- `feed::is_small` meets its contract: the loop goes down, and the words below the index decide.
use mathlib.Core.Path.{◌≡◌}
use Prim.Native.Nat.{◌≤◌}
use Rattle.feed.specs.Bytes.{small_to}
use Rattle.feed.proofs.is_small.Given as goal

abbrev pub invariant-loop-k : goal.invariant-loop-k
invariant-loop-k l = (l.k ≤ 15) × (small_to 15 l.feed ≡ small_to l.k l.feed)

abbrev pub decreases-loop-k : goal.decreases-loop-k
decreases-loop-k l = l.k
