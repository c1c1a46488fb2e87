-- `listing::items::count_items` meets its contract. The loop's invariant: the items counted so far and those from `at` on are all.
use mathlib.Core.Path.{◌≡◌}
use Prim.Native.Nat.{◌+◌, ◌-◌, ◌≤◌}
use lib.ListN.{length}
use Rattle.positions.specs.Positions.{no_count}
use Rattle.scanner.specs.Spans.{scan_from}
use Rattle.listing.proofs.items.count_items.Given as goal

abbrev pub invariant-loop-item : goal.invariant-loop-item
invariant-loop-item l = (l.at ≤ length l.text) × (l.items ≤ l.at)
    × (l.items + length (scan_from l.text l.at no_count) ≡ length (scan_from l.text 0 no_count))

abbrev pub decreases-loop-item : goal.decreases-loop-item
decreases-loop-item l = length l.text - l.at
