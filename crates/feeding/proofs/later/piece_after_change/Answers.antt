-- `feeding::later::piece_after_change` meets its contract: a law for each answer.
use borrow.Author.Tests.{not-false, not-true}
use mathlib.Core.Path.{ap, ◌∙◌}
use native.Mathlib.Omega.{arith}
use lib.ListN.{length}
use lib.Seq.{length-sets}
use Rattle.base.proofs.Writer.{put_as}
use Rattle.base.specs.Words.{bytes_of}
use Rattle.feed.specs.declared.State.{State}
use Rattle.feed.specs.Bytes.{state_words}
use Rattle.policy_change.specs.Bytes.{feed_part}
use Rattle.feeding.proofs.Ending.{ends-called}
use Rattle.feeding.proofs.LaterPieces.{
  few-later,
  later-1,
  later-3,
  later-8,
  later-9,
  later-done,
  lent-taken,
  lent-text,
  part-feed,
  state-read,
}
use Rattle.feeding.proofs.Pieces.{few-rest, len_fits, scalar-held, unfinished_rest}
use Rattle.feeding.proofs.Scanning.{valid_inside}
use Rattle.feeding.proofs.later.piece_after_change.Goals as goal

pub returns-then-state : goal.returns-then-state
returns-then-state c =
    let fd = c.args.feed.now in
    let r = state-read fd c.requires.1 c.read_state-state.ensures.words in
    ends-called (later-9 fd c.args.piece.now c.args.out.now c.requires.1 r c.if-state.true)

pub overflow_sub-len : goal.overflow_sub-len
overflow_sub-len c =
    let fd = c.args.feed.now in
    let r = state-read fd c.requires.1 c.read_state-state.ensures.words in
    omega (arith, len_fits (feed_part fd) c.args.piece.now (part-feed fd c.requires.1) r)

pub returns-then-len-piece : goal.returns-then-len-piece
returns-then-len-piece c =
    let fd = c.args.feed.now in
    let r = state-read fd c.requires.1 c.read_state-state.ensures.words in
    ends-called (later-1 fd c.args.piece.now c.args.out.now c.requires.1 r c.if-state.false c.if-len-piece.true)

pub scan_piece-scan-requires : goal.scan_piece-scan-requires
scan_piece-scan-requires c =
    let fd = c.args.feed.now in
    let r = state-read fd c.requires.1 c.read_state-state.ensures.words in
    let b = c.args.piece.now in
    let E = part-feed fd c.requires.1 in
    (few-rest (feed_part fd) b E r, omega (arith, c.if-len-piece.false), unfinished_rest (feed_part fd) b E r)

pub left_after-left-requires : goal.left_after-left-requires
left_after-left-requires c =
    let fd = c.args.feed.now in
    let r = state-read fd c.requires.1 c.read_state-state.ensures.words in (
      few-rest (feed_part fd) c.args.piece.now (part-feed fd c.requires.1) r,
      omega (arith, c.if-len-piece.false),
      valid_inside c.scan_piece-scan.ensures,
    )

pub overflow_add-valid_up_to : goal.overflow_add-valid_up_to
overflow_add-valid_up_to c =
    let fd = c.args.feed.now in
    let r = state-read fd c.requires.1 c.read_state-state.ensures.words in
    let b = c.args.piece.now in
    let E = part-feed fd c.requires.1 in
    omega (
      arith,
      c.saturating_sub.ensures,
      c.if-len-piece.false,
      valid_inside c.scan_piece-scan.ensures,
      len_fits (feed_part fd) b E r,
      few-rest (feed_part fd) b E r,
    )

pub returns-then-not-left : goal.returns-then-not-left
returns-then-not-left c =
    let fd = c.args.feed.now in
    let r = state-read fd c.requires.1 c.read_state-state.ensures.words in
    ends-called (later-3 fd c.args.piece.now c.args.out.now c.requires.1 r c.if-state.false c.if-len-piece.false
    c.scan_piece-scan.ensures.valid_is c.left_after-left.ensures
    (not-true _ c.if-not-left.true) c.saturating_sub.ensures)

pub returns-then-out-wanted : goal.returns-then-out-wanted
returns-then-out-wanted c =
    let fd = c.args.feed.now in
    let r = state-read fd c.requires.1 c.read_state-state.ensures.words in
    ends-called (later-8 fd c.args.piece.now c.args.out.now c.requires.1 r c.if-state.false c.if-len-piece.false
    c.scan_piece-scan.ensures.valid_is c.left_after-left.ensures
    (not-false _ c.if-not-left.false) c.if-out-wanted.true)

pub take_later-later-requires : goal.take_later-later-requires
take_later-later-requires c =
    let fd = c.args.feed.now in
    let r = state-read fd c.requires.1 c.read_state-state.ensures.words in
    let b = c.args.piece.now in
    let E = part-feed fd c.requires.1 in
    let k = c.scan_piece-scan.ensures in (
      scalar-held (feed_part fd) b E r,
      omega (arith, c.if-len-piece.false),
      few-later fd b E r,
      k.fits,
      omega (arith, lent-text fd b c.requires.1 r k.chars_are, c.if-out-wanted.false),
    )

pub overflow_add-len : goal.overflow_add-len
overflow_add-len c =
    let fd = c.args.feed.now in
    let r = state-read fd c.requires.1 c.read_state-state.ensures.words in
    omega (arith, c.if-len-piece.false, len_fits (feed_part fd) c.args.piece.now (part-feed fd c.requires.1) r)

pub put_state-requires : goal.put_state-requires
put_state-requires c = omega (arith, c.requires.0)

pub adopt_policy-requires : goal.adopt_policy-requires
adopt_policy-requires c =
    ap length c.put_state.ensures.bytes ∙ length-sets c.args.feed.now 0
    (bytes_of (state_words c.open_state.result)) ∙ c.requires.0

pub returns : goal.returns
returns c =
    let fd = c.args.feed.now in
    let r = state-read fd c.requires.1 c.read_state-state.ensures.words in
    let k = c.scan_piece-scan.ensures in
    ends-called (later-done fd c.args.piece.now c.args.out.now c.requires.1 c.requires.2 r c.if-state.false
    c.if-len-piece.false k.valid_is
    c.left_after-left.ensures (not-false _ c.if-not-left.false)
    c.if-out-wanted.false
    (lent-taken fd c.requires.1 k.chars_are c.take_later-later.ensures)
    (c.kept_held-kept.ensures _)
    (put_as _ (ap (λ (y : State). bytes_of (state_words y))
    c.open_state.ensures)
    c.put_state.ensures) c.adopt_policy.ensures)
