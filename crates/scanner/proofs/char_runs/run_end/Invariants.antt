-- `scanner::char_runs::run_end` meets its contract. The loop's invariant: the run from `end` on has the same end as the run from `at`
-- on. The measure is the number of bytes after `end`.
use mathlib.Core.Path.{◌≡◌}
use Prim.Native.Nat.{◌+◌, ◌-◌}
use lib.ListN.{drop, length}
use Rattle.utf8.specs.Rfc3629.{chars}
use Rattle.scanner.specs.RunKinds.{run_of}
use Rattle.scanner.specs.Spans.{size, width}
use Rattle.scanner.proofs.char_runs.run_end.Given as goal

abbrev pub invariant-loop-next : goal.invariant-loop-next
invariant-loop-next l = l.at + size width (run_of l.kind (chars (drop l.at l.text))) ≡ l.end
    + size width (run_of l.kind (chars (drop l.end l.text)))

abbrev pub decreases-loop-next : goal.decreases-loop-next
decreases-loop-next l = length l.text - l.end
