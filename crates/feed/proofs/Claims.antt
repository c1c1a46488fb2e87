-- The proof of each statement of specs/Theorems.antt.
use Rattle.feed.specs.Theorems.{EveryFeedInBytes, RefusalsWriteNothing}
use Rattle.feed.proofs.InBytes.{every_feed, refusal_writes_nothing}

pub every_feed_in_bytes : EveryFeedInBytes
unfolding EveryFeedInBytes
every_feed_in_bytes = every_feed

pub refusals_write_nothing : RefusalsWriteNothing
unfolding RefusalsWriteNothing
refusals_write_nothing = refusal_writes_nothing
