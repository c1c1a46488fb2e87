-- `lines::put_report` meets its contract: the lines of the findings, and the line of the totals after them.
use mathlib.Core.Path.{ap}
use native.Mathlib.Omega.{arith}
use lib.ListN.{length, length-append}
use lib.Seq.{length-sets}
use Rattle.base.proofs.Writer.{put_as, put_then}
use Rattle.message_io.specs.Lines.{total_line}
use Rattle.formatter.specs.List.{count_numbers}
use Rattle.report.specs.Report.{lines_from, report_lines, totals_at}
use Rattle.report.proofs.Reports.{totals_are}
use Rattle.report.proofs.lines.put_report.Goals as goal

pub put_findings-end-requires : goal.put_findings-end-requires
unfolding report_lines
put_findings-end-requires c =
    let p = c.args.policy in
    let m = c.args.message.now in
    omega (arith, c.requires, length-append (lines_from p m 0) (total_line (count_numbers (totals_at p m))))

pub put_totals-requires : goal.put_totals-requires
unfolding report_lines
put_totals-requires c =
    let p = c.args.policy in
    let m = c.args.message.now in
    let f = c.put_findings-end.ensures in
    let t = totals_are p m c.measure_cells.ensures.counts in
    let l = length-append (lines_from p m 0) (total_line (count_numbers (totals_at p m))) in
    omega (arith, c.requires, f.ends, ap length f.bytes, length-sets c.args.out.now 0 (lines_from p m 0), ap length t, l)

pub returns : goal.returns
unfolding report_lines
returns c =
    let x = c.args in
    let f = c.put_findings-end.ensures in
    let t = totals_are x.policy x.message.now c.measure_cells.ensures.counts in
    put_then f (put_as _ t c.put_totals.ensures)
