-- `feeding::totals_now` meets its contract.
use native.Mathlib.Omega.{arith}
use Rattle.feeding.proofs.Ending.{totals-none}
use Rattle.feeding.proofs.Settling.{other_length}
use Rattle.feeding.proofs.totals_now.Goals as goal

pub returns-then-feed-ne-FEED_BYTES : goal.returns-then-feed-ne-FEED_BYTES
returns-then-feed-ne-FEED_BYTES c =
    let x = c.args in totals-none x.feed.now (other_length x.feed.now c.if-feed-ne-FEED_BYTES.true)
    c.empty.ensures

pub feed_totals-requires : goal.feed_totals-requires
feed_totals-requires c = omega (arith, c.if-feed-ne-FEED_BYTES.false)
