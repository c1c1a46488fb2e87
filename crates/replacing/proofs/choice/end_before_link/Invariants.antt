-- `replacing::choice::end_before_link` meets its contract. The loop's invariant: the next link from `end` on is the next link from
-- `at` on. The measure is the number of bytes after `end`.
use mathlib.Core.Path.{◌≡◌}
use Prim.Native.Nat.{◌+◌, ◌-◌}
use lib.ListN.{drop, length}
use Rattle.utf8.specs.Rfc3629.{chars}
use Rattle.scanner.specs.Runs.{run}
use Rattle.scanner.specs.Spans.{size, width}
use Rattle.analysis.proofs.ChoicesAt.{off_link}
use Rattle.replacing.proofs.choice.end_before_link.Given as goal

abbrev pub invariant-loop-seen : goal.invariant-loop-seen
invariant-loop-seen l = l.at + size width (run off_link (chars (drop l.at l.raw))) ≡ l.end
    + size width (run off_link (chars (drop l.end l.raw)))

abbrev pub decreases-loop-seen : goal.decreases-loop-seen
decreases-loop-seen l = length l.raw - l.end
