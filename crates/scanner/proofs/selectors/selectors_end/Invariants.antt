-- `scanner::selectors::selectors_end` meets its contract. The loop's invariant: the selectors from `at` on have the same end as
-- those from `from` on. The measure is the number of bytes after `at`.
use mathlib.Core.Path.{◌≡◌}
use Prim.Native.Nat.{◌+◌, ◌-◌}
use lib.ListN.{drop, length}
use Rattle.utf8.specs.Rfc3629.{chars}
use Rattle.scanner.specs.Runs.{selectors_at}
use Rattle.scanner.specs.Spans.{size, width}
use Rattle.scanner.proofs.selectors.selectors_end.Given as goal

abbrev pub invariant-loop-at : goal.invariant-loop-at
invariant-loop-at l = l.from + size width (selectors_at (chars (drop l.from l.text))) ≡ l.at
    + size width (selectors_at (chars (drop l.at l.text)))

abbrev pub decreases-loop-at : goal.decreases-loop-at
decreases-loop-at l = length l.text - l.at
