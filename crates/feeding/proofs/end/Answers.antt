-- `feeding::end` meets its contract.
use native.Mathlib.Omega.{arith}
use Rattle.feeding.proofs.Ending.{ends-called, no_feed_end}
use Rattle.feeding.proofs.Settling.{other_length}
use Rattle.feeding.proofs.end.Goals as goal

pub returns-then-feed-ne-FEED_BYTES : goal.returns-then-feed-ne-FEED_BYTES
returns-then-feed-ne-FEED_BYTES c =
    let x = c.args in
    ends-called (no_feed_end x.feed.now x.out.now (other_length x.feed.now c.if-feed-ne-FEED_BYTES.true))

pub end_feed-requires : goal.end_feed-requires
end_feed-requires c = omega (arith, c.if-feed-ne-FEED_BYTES.false)
