-- `feeding::take_piece` meets its contract: a law for each answer.
use borrow.Author.Tests.{not-false, not-true}
use mathlib.Core.Path.{ap, sym, ◌∙◌}
use mathlib.Core.List.{List, ◌++◌}
use Prim.Native.Nat.{ℕ, ◌-◌}
use native.Mathlib.Omega.{arith}
use lib.ListN.{drop, length, take}
use Rattle.base.proofs.Writer.{put_as}
use Rattle.base.specs.Words.{little_endian}
use Rattle.utf8.specs.Rfc3629.{chars, encode_all}
use Rattle.base.specs.Words.{bytes_of}
use Rattle.policy.specs.PolicyBytes.{policy_of}
use Rattle.feed.specs.Feed.{take_chars}
use Rattle.feed.specs.declared.State.{State}
use Rattle.feed.specs.Bytes.{pending_of, policy_part, state_words}
use Rattle.feed.specs.Feed.{fed_as}
use Rattle.feed.proofs.Reading.{policy-lent}
use Rattle.feeding.proofs.Settling.{feed_length}
use Rattle.feeding.proofs.Ending.{ends-called}
use Rattle.feeding.proofs.Pieces.{
  few_counts,
  few-rest,
  len_fits,
  lent,
  no-feed-piece,
  piece_1,
  piece_3,
  piece_8,
  piece_9,
  piece-done,
  scalar-held,
  text_fits,
  unfinished_rest,
}
use Rattle.feeding.proofs.Scanning.{valid_inside}
use Rattle.feeding.proofs.Taking.{taken_as}
use Rattle.feeding.proofs.take_piece.Goals as goal

pub returns-then-not-is_feed : goal.returns-then-not-is_feed
returns-then-not-is_feed c =
    let x = c.args in ends-called
    (no-feed-piece x.feed.now x.piece.now x.out.now (sym c.is_feed.ensures ∙ c.if-not-is_feed.true))

pub returns-then-state : goal.returns-then-state
returns-then-state c =
    let x = c.args in
    ends-called (piece_9 x.feed.now x.piece.now x.out.now
    (sym c.is_feed.ensures ∙ c.if-not-is_feed.false)
    (ap (λ (s : State). s.ended) (sym (c.read_state-state.ensures.words (omega
    (arith, c.requires)))) ∙ c.if-state.true))

pub overflow_sub-len : goal.overflow_sub-len
overflow_sub-len c =
    let x = c.args in omega (
      arith,
      len_fits x.feed.now x.piece.now
          (sym c.is_feed.ensures ∙ c.if-not-is_feed.false)
          (c.read_state-state.ensures.words
          (omega (arith, c.requires))),
    )

pub returns-then-len-piece : goal.returns-then-len-piece
returns-then-len-piece c =
    let x = c.args in
    ends-called (piece_1 x.feed.now x.piece.now x.out.now
    (sym c.is_feed.ensures ∙ c.if-not-is_feed.false)
    (c.read_state-state.ensures.words (omega
    (arith, c.requires))) c.if-state.false
    c.if-len-piece.true)

pub slice_bounds-scan_piece-count : goal.slice_bounds-scan_piece-count
slice_bounds-scan_piece-count c =
    let x = c.args in
    let f = x.feed.now in
    let i = sym c.is_feed.ensures ∙ c.if-not-is_feed.false in
    omega (arith, feed_length f i)

pub slice_bounds-scan_piece-start : goal.slice_bounds-scan_piece-start
slice_bounds-scan_piece-start c =
    let x = c.args in
    let f = x.feed.now in
    let i = sym c.is_feed.ensures ∙ c.if-not-is_feed.false in
    omega (arith, feed_length f i)

pub scan_piece-scan-requires : goal.scan_piece-scan-requires
scan_piece-scan-requires c =
    let x = c.args in
    let f = x.feed.now in
    let b = x.piece.now in
    let i = sym c.is_feed.ensures ∙ c.if-not-is_feed.false in
    let r = c.read_state-state.ensures.words (omega (arith, c.requires)) in
    (few-rest f b i r, omega (arith, c.if-len-piece.false), unfinished_rest f b i r)

pub left_after-left-requires : goal.left_after-left-requires
left_after-left-requires c =
    let x = c.args in
    let f = x.feed.now in
    let b = x.piece.now in
    let i = sym c.is_feed.ensures ∙ c.if-not-is_feed.false in
    let r = c.read_state-state.ensures.words (omega (arith, c.requires)) in
    (few-rest f b i r, omega (arith, c.if-len-piece.false), valid_inside c.scan_piece-scan.ensures)

pub overflow_add-valid_up_to : goal.overflow_add-valid_up_to
overflow_add-valid_up_to c =
    let x = c.args in
    let f = x.feed.now in
    let b = x.piece.now in
    let i = sym c.is_feed.ensures ∙ c.if-not-is_feed.false in
    let r = c.read_state-state.ensures.words (omega
    (arith, c.requires)) in
    omega (
      arith,
      c.saturating_sub.ensures,
      c.if-len-piece.false,
      valid_inside c.scan_piece-scan.ensures,
      len_fits f b i r,
      few-rest f b i r,
    )

pub returns-then-not-left : goal.returns-then-not-left
returns-then-not-left c =
    let x = c.args in
    let f = x.feed.now in
    let b = x.piece.now in
    let i = sym c.is_feed.ensures ∙ c.if-not-is_feed.false in
    let r = c.read_state-state.ensures.words (omega
    (arith, c.requires)) in
    ends-called (piece_3 f b x.out.now i r c.if-state.false
    c.if-len-piece.false
    c.scan_piece-scan.ensures.valid_is
    c.left_after-left.ensures (not-true _ c.if-not-left.true) c.saturating_sub.ensures)

pub returns-then-out-wanted : goal.returns-then-out-wanted
returns-then-out-wanted c =
    let x = c.args in
    let f = x.feed.now in
    let b = x.piece.now in
    let i = sym c.is_feed.ensures ∙ c.if-not-is_feed.false in
    let r = c.read_state-state.ensures.words (omega
    (arith, c.requires)) in
    ends-called (piece_8 f b x.out.now i r c.if-state.false
    c.if-len-piece.false
    c.scan_piece-scan.ensures.valid_is
    c.left_after-left.ensures (not-false _ c.if-not-left.false) c.if-out-wanted.true)

pub slice_bounds-take_all-count : goal.slice_bounds-take_all-count
slice_bounds-take_all-count c =
    let x = c.args in
    let f = x.feed.now in
    let i = sym c.is_feed.ensures ∙ c.if-not-is_feed.false in
    omega (arith, feed_length f i)

pub slice_bounds-take_all-start : goal.slice_bounds-take_all-start
slice_bounds-take_all-start c =
    let x = c.args in
    let f = x.feed.now in
    let i = sym c.is_feed.ensures ∙ c.if-not-is_feed.false in
    omega (arith, feed_length f i)

pub take_all-taken-requires : goal.take_all-taken-requires
take_all-taken-requires c =
    let x = c.args in
    let f = x.feed.now in
    let b = x.piece.now in
    let i = sym c.is_feed.ensures ∙ c.if-not-is_feed.false in
    let r = c.read_state-state.ensures.words (omega (arith, c.requires)) in
    let s = c.read_state-state.result in
    let u = little_endian s.rest_len s.rest ++ b in
    let k = c.scan_piece-scan in
    let a = ap (λ (l : List ℕ). length (encode_all (take_chars (pending_of (policy_of l) s.held) (fed_as (policy_of l) (chars u))).1.text))
    (policy-lent f) in
    let q = policy_of (take (length f - 120) (drop 120 f)) in
    let m = ap (λ (cs : List ℕ). length (encode_all (take_chars (pending_of q s.held) (fed_as q cs)).1.text)) k.ensures.chars_are in (
      scalar-held f b i r,
      omega (arith, c.if-len-piece.false),
      few_counts f b i r,
      k.ensures.fits,
      omega (arith, a, m, text_fits f b i r, c.if-out-wanted.false),
    )

pub overflow_add-len : goal.overflow_add-len
overflow_add-len c =
    let x = c.args in
    let f = x.feed.now in
    let b = x.piece.now in
    let i = sym c.is_feed.ensures ∙ c.if-not-is_feed.false in
    let r = c.read_state-state.ensures.words (omega
    (arith, c.requires)) in
    omega (arith, c.if-len-piece.false, len_fits f b i r)

pub put_state-requires : goal.put_state-requires
put_state-requires c =
    let x = c.args in
    let f = x.feed.now in
    let i = sym c.is_feed.ensures ∙ c.if-not-is_feed.false in
    omega (arith, feed_length f i)

pub returns : goal.returns
returns c =
    let x = c.args in
    let f = x.feed.now in
    let b = x.piece.now in
    let i = sym c.is_feed.ensures ∙ c.if-not-is_feed.false in
    let r = c.read_state-state.ensures.words (omega (arith, c.requires)) in
    let s = c.read_state-state.result in
    let u = little_endian s.rest_len s.rest ++ b in
    let k = c.scan_piece-scan in
    ends-called (piece-done f b x.out.now i r c.if-state.false c.if-len-piece.false
    k.ensures.valid_is c.left_after-left.ensures
    (not-false _ c.if-not-left.false)
    c.if-out-wanted.false
    (lent (chars u) (policy-lent f) (taken_as (sym k.ensures.chars_are) c.take_all-taken.ensures))
    (c.kept_held-kept.ensures (policy_part f))
    (put_as _ (ap (λ (y : State). bytes_of (state_words y)) c.open_state.ensures)
    c.put_state.ensures))
