-- `feeding::ascii::put_each` meets its contract. The loop's invariant: the first `i` bytes are written.
use Prim.Native.Nat.{◌-◌, ◌≤◌}
use lib.ListN.{drop, length}
use Rattle.base.proofs.Writer.{Writing}
use Rattle.feeding.proofs.ascii.put_each.Given as goal

abbrev pub invariant-loop-i : goal.invariant-loop-i
invariant-loop-i l = (l.i ≤ length l.bytes) × Writing l.bytes l.start l.initial.out (drop l.i l.bytes) l.out l.at

abbrev pub decreases-loop-i : goal.decreases-loop-i
decreases-loop-i l = length l.bytes - l.i
