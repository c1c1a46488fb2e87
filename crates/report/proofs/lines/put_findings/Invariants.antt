-- `lines::put_findings` meets its contract. The loop's invariant: the lines of the findings before the offset `at` of the message are
-- written.
use Prim.Native.Nat.{◌-◌, ◌≤◌}
use lib.ListN.{length}
use Rattle.base.proofs.Writer.{Writing}
use Rattle.report.specs.Report.{lines_from}
use Rattle.report.proofs.lines.put_findings.Given as goal

abbrev pub invariant-loop-end : goal.invariant-loop-end
invariant-loop-end l =
    (l.at ≤ length l.message)
    × Writing (lines_from l.policy l.message 0) 0 l.initial.out (lines_from l.policy l.message l.at) l.out l.to

abbrev pub decreases-loop-end : goal.decreases-loop-end
decreases-loop-end l = length l.message - l.at
