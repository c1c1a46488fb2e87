-- `replacing::render::item_starts_at` meets its contract. The loop's invariant: one of the items from `at` on starts at the offset
-- exactly if one of the text's items does.
use mathlib.Core.Path.{◌≡◌}
use Prim.Native.Nat.{◌-◌, ◌≤◌}
use lib.ListN.{length}
use Rattle.positions.specs.Positions.{no_count}
use Rattle.scanner.specs.Spans.{scan_from}
use Rattle.analysis.specs.Helpers.{starts_at}
use Rattle.replacing.proofs.render.item_starts_at.Given as goal

abbrev pub invariant-loop-item : goal.invariant-loop-item
invariant-loop-item l = (l.at ≤ length l.text) × (starts_at l.offset (scan_from l.text l.at no_count)
    ≡ starts_at l.offset (scan_from l.text 0 no_count))

abbrev pub decreases-loop-item : goal.decreases-loop-item
decreases-loop-item l = length l.text - l.at
