-- `policy::read_set` meets its contract. The loop's invariant: the words before word `i` are the words of the bytes.
use mathlib.Core.Path.{◌≡◌}
use Prim.Native.Nat.{ℕ, ◌+◌, ◌*◌, ◌<◌}
use lib.ListN.{drop, get_or, length, take}
use Rattle.base.specs.Words.{number}
use Rattle.policy.proofs.read_set.Given as goal

abbrev pub invariant-loop-i : goal.invariant-loop-i
invariant-loop-i l = (length l.bits ≡ 6)
    × ((k : ℕ) → k < l.i → get_or l.bits k 0 ≡ number (take 8 (drop (l.at + k * 8) l.bytes)))
