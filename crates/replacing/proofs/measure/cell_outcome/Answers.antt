-- `replacing::measure::cell_outcome` meets its contract: the cell as the code reads it (CellsAt, cell-read).
use Rattle.analysis.proofs.CellsAt.{cell-read}
use Rattle.replacing.proofs.measure.cell_outcome.Goals as goal

pub returns : goal.returns
returns c =
    let x = c.args in
    let r = c.consume_presentation_selectors-first in
    let k = c.class_at-next in
    let o = c.analyze_singleton_base_selectors-outcome in
    let both = cell-read x.text.now x.at x.policy x.base r.result k.result o.result r.ensures k.ensures o.ensures in
    record { outcome = both.0; end = both.1 }
