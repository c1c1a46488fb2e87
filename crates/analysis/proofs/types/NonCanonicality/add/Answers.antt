-- `analysis::types::NonCanonicality::add` meets its contract: count by count.
use Rattle.analysis.specs.Counts.{capped_sum}
use Rattle.analysis.proofs.Counts.{counts_path}
use Rattle.analysis.proofs.types.NonCanonicality.add.Goals as goal

pub returns : goal.returns
unfolding capped_sum
returns c =
    counts_path _ _
    c.add_count.ensures
    c.add_count-2.ensures
    c.add_count-3.ensures
    c.add_count-4.ensures
    c.add_count-5.ensures
    c.add_count-6.ensures
    c.add_count-7.ensures
    c.add_count-8.ensures
