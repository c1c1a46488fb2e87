-- `findings_near::rows::span_positions` meets its contract.
use mathlib.Core.Path.{ap, ◌∙◌}
use Rattle.positions.specs.Positions.{capped_plus}
use Rattle.findings_near.proofs.rows.span_positions.Goals as goal

pub returns : goal.returns
returns c = record {
  first = c.add_counts-first.ensures ∙ ap (capped_plus _) c.count_between.ensures;
  last = c.add_counts-last.ensures ∙ ap (capped_plus _) c.count_between-2.ensures;
}
