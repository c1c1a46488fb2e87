-- `feeding::new_state` meets its contract.
use Rattle.feeding.proofs.Beginning.{new_state}
use Rattle.feeding.proofs.new_state.Goals as goal

pub returns : goal.returns
returns c = λ p. new_state p c.empty-counts.ensures
