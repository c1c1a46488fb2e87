-- `feeding::piece` meets its contract.
use native.Mathlib.Omega.{arith}
use Rattle.feeding.proofs.Ending.{ends-called}
use Rattle.feeding.proofs.Pieces.{no-feed-piece}
use Rattle.feeding.proofs.Settling.{other_length}
use Rattle.feeding.proofs.piece.Goals as goal

pub returns-then-feed-ne-FEED_BYTES : goal.returns-then-feed-ne-FEED_BYTES
returns-then-feed-ne-FEED_BYTES c =
    let x = c.args in
    ends-called (no-feed-piece x.feed.now x.piece.now x.out.now (other_length x.feed.now c.if-feed-ne-FEED_BYTES.true))

pub copies_ascii-requires : goal.copies_ascii-requires
copies_ascii-requires c = omega (arith, c.if-feed-ne-FEED_BYTES.false)

pub take_piece-requires : goal.take_piece-requires
take_piece-requires c = omega (arith, c.if-feed-ne-FEED_BYTES.false)

pub copy_piece-requires : goal.copy_piece-requires
copy_piece-requires c = c.copies_ascii.ensures c.if-not-copies_ascii.false
