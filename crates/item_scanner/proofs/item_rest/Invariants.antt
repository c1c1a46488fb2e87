-- `item_scanner::item_rest` meets its contract. The loop's invariant: the rest from `at` and `state` on, with `tags_complete`, gives the
-- end and the tag report of the whole rest (Cursor, Reading).
-- The measure is the number of bytes after `at`.
use Prim.Native.Nat.{◌-◌}
use lib.ListN.{length}
use Rattle.item_scanner.proofs.Cursor.{Reading}
use Rattle.item_scanner.proofs.item_rest.Given as goal

abbrev pub invariant-loop-next : goal.invariant-loop-next
invariant-loop-next l = Reading l.text l.from l.initial.state l.at l.state l.tags_complete

abbrev pub decreases-loop-next : goal.decreases-loop-next
decreases-loop-next l = length l.text - l.at
