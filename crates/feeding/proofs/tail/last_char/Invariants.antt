-- `feeding::tail::last_char` meets its contract. The loop's invariant: the last character has at least `width` bytes.
use Prim.Native.Nat.{◌-◌}
use Rattle.feeding.proofs.Tails.{Widening}
use Rattle.feeding.proofs.tail.last_char.Given as goal

abbrev pub invariant-loop-width : goal.invariant-loop-width
invariant-loop-width l = Widening l.text l.from l.to l.width

abbrev pub decreases-loop-width : goal.decreases-loop-width
decreases-loop-width l = 5 - l.width
