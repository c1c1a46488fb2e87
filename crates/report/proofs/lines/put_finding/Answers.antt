-- `lines::put_finding` meets its contract: the start, the end, and the eight counts.
use mathlib.Core.Path.{ap}
use native.Mathlib.Omega.{arith}
use lib.ListN.{length}
use Rattle.base.proofs.Writer.{put_as}
use Rattle.report.specs.Report.{report_numbers}
use Rattle.report.proofs.lines.put_finding.Goals as goal

pub put_line-requires : goal.put_line-requires
unfolding report_numbers
put_line-requires c =
    let n = c.count_numbers-numbers.ensures in
    let e = rw n at c.finding_line-len.ensures.out_after in
    omega (arith, c.requires, ap length e)

pub returns : goal.returns
unfolding report_numbers
returns c =
    let n = c.count_numbers-numbers.ensures in
    put_as _ (rw n at c.finding_line-len.ensures.out_after) c.put_line.ensures
