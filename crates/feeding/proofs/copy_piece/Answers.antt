-- `feeding::copy_piece` meets its contract: the piece is copied, or taken as any other.
use native.Mathlib.Omega.{arith}
use Rattle.feeding.proofs.Copying.{copied_as, copied_base, copy_done}
use Rattle.feeding.proofs.Ending.{ends-called}
use Rattle.feeding.proofs.Settling.{feed_length}
use Rattle.feeding.proofs.copy_piece.Goals as goal

pub len_word-len-requires : goal.len_word-len-requires
len_word-len-requires c = feed_length c.args.feed.now c.requires.is_feed_lem

pub is_copied_piece-requires : goal.is_copied_piece-requires
is_copied_piece-requires c = omega (arith, c.len_word-len.ensures, c.requires.words.len)

pub take_piece-requires : goal.take_piece-requires
take_piece-requires c = feed_length c.args.feed.now c.requires.is_feed_lem

pub base_word-base-requires : goal.base_word-base-requires
base_word-base-requires c = feed_length c.args.feed.now c.requires.is_feed_lem

pub last_held-last-requires : goal.last_held-last-requires
last_held-last-requires c = let q = c.is_copied_piece.ensures c.if-not-is_copied_piece.false in (q.some, q.ascii)

pub put_ascii-end-requires : goal.put_ascii-end-requires
put_ascii-end-requires c =
    let q = c.is_copied_piece.ensures c.if-not-is_copied_piece.false in
    (omega (arith, c.base_word-base.ensures, c.requires.base), q.some, omega (arith, q.fits))

pub put_words-requires : goal.put_words-requires
put_words-requires c = feed_length c.args.feed.now c.requires.is_feed_lem

pub returns : goal.returns
returns c =
    let x = c.args in
    let n = c.len_word-len.ensures in
    let q = c.is_copied_piece.ensures c.if-not-is_copied_piece.false in
    ends-called (copy_done x.feed.now x.piece.now x.out.now c.requires (copied_as n q) c.last_held-last.ensures
    (copied_base _ c.base_word-base.ensures c.put_ascii-end.ensures) n
    c.put_words.ensures)
