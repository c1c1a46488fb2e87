-- `feeding::put_state` meets its contract: the words fit.
use Rattle.feeding.proofs.Beginning.{state_put}
use Rattle.feeding.proofs.put_state.Goals as goal

pub returns : goal.returns
returns c = state_put c.args.state c.args.feed.now _ _ c.requires c.write_state.ensures
