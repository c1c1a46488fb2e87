-- `utf8_validity::valid_up_to` meets its contract. The loop's invariant: `at` plus the longest well-formed prefix of the bytes from `at`
-- on is `valid_up_to_of` of the text. The measure is the number of bytes left.
use mathlib.Core.Path.{◌≡◌}
use Prim.Native.Nat.{◌+◌, ◌-◌, ◌≤◌}
use lib.ListN.{length, drop}
use Rattle.utf8.specs.Rfc3629.{valid_up_to_of}
use Rattle.utf8_validity.proofs.valid_up_to.Given as goal

abbrev pub invariant-loop-at : goal.invariant-loop-at
invariant-loop-at l = (l.at ≤ length l.s) × (l.at + valid_up_to_of (drop l.at l.s) ≡ valid_up_to_of l.s)

abbrev pub decreases-loop-at : goal.decreases-loop-at
decreases-loop-at l = length l.s - l.at
