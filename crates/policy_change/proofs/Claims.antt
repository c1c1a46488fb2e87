-- The proof of each statement of specs/Theorems.antt.
use Rattle.policy_change.specs.Theorems.{EveryChangingFeed, RefusalsWriteNothing}
use Rattle.policy_change.proofs.Changing.{every_changing, refused-writes-nothing}

pub every_changing_feed : EveryChangingFeed
unfolding EveryChangingFeed
every_changing_feed = every_changing

pub refusals_write_nothing : RefusalsWriteNothing
unfolding RefusalsWriteNothing
refusals_write_nothing = refused-writes-nothing
