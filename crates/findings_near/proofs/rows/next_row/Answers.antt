-- `findings_near::rows::next_row` meets its contract.
use mathlib.Core.Path.{refl}
use Rattle.findings_near.proofs.NextRows.{is_last, is_next}
use Rattle.findings_near.proofs.rows.next_row.Goals as goal

pub returns-then-not-present : goal.returns-then-not-present
returns-then-not-present c = is_last c.next_finding-start.ensures c.if-not-present.true

pub returns : goal.returns
returns c =
    let s = c.span_positions.ensures in
    is_next c.next_finding-start.ensures c.if-not-present.false c.requires refl s.first refl s.last
