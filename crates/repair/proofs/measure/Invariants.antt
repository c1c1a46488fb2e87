-- `repair::measure` meets its contract. The loop's invariant: the length counted so far and the length of
-- the repaired rest, from `at` on, are together the length of the repaired text; so are the numbers of replacements.
-- The measure is the number of bytes from `at` on.
use mathlib.Core.Path.{◌≡◌}
use Prim.Native.Nat.{◌+◌, ◌-◌, ◌≤◌}
use lib.ListN.{drop, length}
use Rattle.repair.specs.Repaired.{repaired, replacements}
use Rattle.repair.proofs.measure.Given as goal

abbrev pub invariant-loop-at : goal.invariant-loop-at
invariant-loop-at l = (l.at ≤ length l.text) × (l.len + length (repaired (drop l.at l.text)) ≡ length (repaired l.text))
    × (l.replaced + replacements (drop l.at l.text) ≡ replacements l.text)

abbrev pub decreases-loop-at : goal.decreases-loop-at
decreases-loop-at l = length l.text - l.at
