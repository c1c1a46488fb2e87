-- `repair::write_repaired` meets its contract. The loop's invariant: the repaired rest, from `at` on, is still to be written at the
-- offset `len`; and the number of replacements so far and that of the rest are together the whole number. The measure is the number of
-- bytes from `at` on.
use mathlib.Core.Path.{◌≡◌}
use Prim.Native.Nat.{◌+◌, ◌-◌, ◌≤◌}
use lib.ListN.{drop, length}
use Rattle.base.proofs.Writer.{Writing}
use Rattle.repair.specs.Repaired.{repaired, replacements}
use Rattle.repair.proofs.write_repaired.Given as goal

abbrev pub invariant-loop-at : goal.invariant-loop-at
invariant-loop-at l = (l.at ≤ length l.text) × Writing (repaired l.text) 0 l.initial.out (repaired (drop l.at l.text)) l.out l.len
    × (l.replaced + replacements (drop l.at l.text) ≡ replacements l.text)

abbrev pub decreases-loop-at : goal.decreases-loop-at
decreases-loop-at l = length l.text - l.at
