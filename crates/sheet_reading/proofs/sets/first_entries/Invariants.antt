-- `sheet_reading::sets::first_entries` meets its contract. The loop's invariant: each word before word `i` has the right
-- bits.
use mathlib.Core.Path.{◌≡◌}
use Prim.Native.Nat.{ℕ, ◌+◌, ◌*◌, ◌<◌}
use lib.Dec.{ltb}
use lib.ListN.{get_or, length}
use Rattle.base.specs.Bits.{one}
use Rattle.sheet_reading.proofs.sets.first_entries.Given as goal

abbrev pub invariant-loop-i : goal.invariant-loop-i
invariant-loop-i l = (length l.bits ≡ 6) × ((w : ℕ) → w < l.i → (k : ℕ) → k < 64 → one k (get_or l.bits w 0) ≡ ltb (64 * w + k) l.n)
