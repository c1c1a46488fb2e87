use Rattle.std.proofs.Common.{arith}
use Rattle.base.proofs.Writer.{put_as}
use Rattle.report.proofs.lines.put_refusal.Goals as goal

pub returns : goal.returns
returns c =
    let l = c.refusal_line-len.ensures in
    let p = c.put_line.ensures in
    (put_as _ l.out_after p, omega (arith, p.ends, l.prefix_len.1, l.upper_bound))
