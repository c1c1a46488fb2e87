use Rattle.utf8_validity.proofs.WidthRuns.{three-more}
use Rattle.std.proofs.Common.{rules}
use Rattle.utf8_validity.proofs.runs.three_end.Goals as goal

pub loop-at-preserved : goal.loop-at-preserved
loop-at-preserved c =
    let f = c.three_fits.ensures (search rules) in
    three-more c.loop-at.invariant (search rules) f.0 f.1 f.2 f.3 f.4 f.5 f.6
