-- `positions::add_counts` meets its contract.
use mathlib.Core.Path.{ap₂}
use Rattle.positions.specs.Positions.{capped_plus}
use Rattle.positions.proofs.Counting.{text_count_lem}
use Rattle.positions.proofs.add_counts.Goals as goal

pub returns : goal.returns
unfolding capped_plus
returns c = ap₂ text_count_lem c.add_count.ensures c.add_count-2.ensures
