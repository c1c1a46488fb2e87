-- `policy::put_set` meets its contract. The loop's invariant: the bytes of the words before word `i` are written.
use mathlib.Core.Path.{◌≡◌}
use lib.ListN.{drop, length}
use Rattle.base.specs.Words.{bytes_of}
use Rattle.base.proofs.Writer.{Writing}
use Rattle.policy.proofs.put_set.Given as goal

abbrev pub invariant-loop-i : goal.invariant-loop-i
invariant-loop-i l = (length l.set.bits ≡ 6)
    × Writing (bytes_of l.set.bits) l.start l.initial.out (bytes_of (drop l.i l.set.bits)) l.out l.at
