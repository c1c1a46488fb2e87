-- `base::add_count` meets its contract.
use Rattle.std.proofs.Common.{arith}
use Rattle.std.proofs.lemmas.Grind.{common_steps}
use Rattle.base.specs.Sums.{capped}
use Rattle.base.proofs.add_count.Goals as goal

pub returns : goal.returns
unfolding capped
returns c = grind (arith, common_steps)
