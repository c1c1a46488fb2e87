-- The digits that `io::decimal` gives are those of the definition.
use Rattle.std.proofs.Common.{arith, ◌∙◌}
use Rattle.base.proofs.Writer.{put_as}
use Rattle.message_io.specs.Lines.{decimal}
use Rattle.message_io.proofs.Digits.{at_most, decimal-digits}
use Rattle.message_io.proofs.line.put_decimal.Goals as goal

pub returns : goal.returns
returns c =
    let n = c.args.n in
    let d = c.decimal-k in
    let p = c.put_bytes.ensures in (
      put_as (decimal n) (d.ensures.digits ∙ decimal-digits d.result n d.ensures.len) p,
      omega (arith, p.ends, d.ensures.in_bounds.1, at_most n d.result c.ranges.n.fits d.ensures.len),
    )
