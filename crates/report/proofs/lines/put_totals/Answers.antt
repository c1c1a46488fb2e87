-- `lines::put_totals` meets its contract: the eight totals.
use mathlib.Core.Path.{ap}
use native.Mathlib.Omega.{arith}
use lib.ListN.{length}
use Rattle.base.proofs.Writer.{put_as}
use Rattle.report.proofs.lines.put_totals.Goals as goal

pub put_line-requires : goal.put_line-requires
put_line-requires c =
    let n = c.count_numbers-numbers.ensures in
    let e = rw n at c.total_line-len.ensures.out_after in
    omega (arith, c.requires, ap length e)

pub returns : goal.returns
returns c =
    let n = c.count_numbers-numbers.ensures in
    put_as _ (rw n at c.total_line-len.ensures.out_after) c.put_line.ensures
