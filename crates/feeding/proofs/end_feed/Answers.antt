-- `feeding::end_feed` meets its contract: a law for each answer.
use mathlib.Core.Path.{ap, sym, ◌∙◌}
use mathlib.Core.List.{List}
use Prim.Native.Nat.{ℕ}
use native.Mathlib.Omega.{arith}
use lib.ListN.{length}
use Rattle.base.proofs.Writer.{put_as}
use Rattle.utf8.specs.Rfc3629.{encode_all, is_scalar}
use Rattle.base.specs.Words.{bytes_of}
use Rattle.policy.specs.PolicyBytes.{policy_of}
use Rattle.scanner.specs.declared.char_class.Class.TheVariants.{Other as other}
use Rattle.feed.specs.Feed.{settle}
use Rattle.feed.specs.declared.State.{State}
use Rattle.feed.specs.Bytes.{pending_of, policy_part, state_words}
use Rattle.feed.proofs.Reading.{policy-lent}
use Rattle.feeding.proofs.Settling.{feed_length, feed_scalar}
use Rattle.feeding.proofs.Ending.{ends-called, end_10, end_8, end_9, end_done, last-few, no_feed_end}
use Rattle.feeding.proofs.end_feed.Goals as goal

pub returns-then-not-is_feed : goal.returns-then-not-is_feed
returns-then-not-is_feed c =
    let x = c.args in ends-called
    (no_feed_end x.feed.now x.out.now (sym c.is_feed.ensures ∙ c.if-not-is_feed.true))

pub returns-then-state : goal.returns-then-state
returns-then-state c =
    let x = c.args in
    ends-called (end_9 x.feed.now x.out.now
    (sym c.is_feed.ensures ∙ c.if-not-is_feed.false)
    (ap (λ (s : State). s.ended) (sym (c.read_state-state.ensures.words (omega
    (arith, c.requires)))) ∙ c.if-state.true))

pub returns-then-state-ne0 : goal.returns-then-state-ne0
returns-then-state-ne0 c =
    let x = c.args in
    let e = ap (λ (s : State). s.rest_len) (c.read_state-state.ensures.words (omega
    (arith, c.requires))) in
    ends-called (end_10 x.feed.now x.out.now
    (sym c.is_feed.ensures ∙ c.if-not-is_feed.false)
    (ap (λ (s : State). s.ended) (sym (c.read_state-state.ensures.words (omega
    (arith, c.requires)))) ∙ c.if-state.false)
    (λ z. c.if-state-ne0.true (e ∙ z)))

pub returns-then-out-lt-END_ROOM : goal.returns-then-out-lt-END_ROOM
returns-then-out-lt-END_ROOM c =
    let x = c.args in
    let e = ap (λ (s : State). s.rest_len) (c.read_state-state.ensures.words (omega
    (arith, c.requires))) in
    ends-called (end_8 x.feed.now x.out.now
    (sym c.is_feed.ensures ∙ c.if-not-is_feed.false)
    (ap (λ (s : State). s.ended) (sym (c.read_state-state.ensures.words (omega
    (arith, c.requires))))
    ∙ c.if-state.false)
    (sym e ∙ c.if-state-ne0.false) c.if-out-lt-END_ROOM.true)

pub slice_bounds-put_held-count : goal.slice_bounds-put_held-count
slice_bounds-put_held-count c =
    let x = c.args in omega (
      arith,
      feed_length x.feed.now
          (sym c.is_feed.ensures ∙ c.if-not-is_feed.false),
    )

pub slice_bounds-put_held-start : goal.slice_bounds-put_held-start
slice_bounds-put_held-start c =
    let x = c.args in omega (
      arith,
      feed_length x.feed.now
          (sym c.is_feed.ensures ∙ c.if-not-is_feed.false),
    )

pub put_held-settled-requires : goal.put_held-settled-requires
put_held-settled-requires c =
    let x = c.args in (
      ap (λ (s : State). is_scalar s.held.base)
          (c.read_state-state.ensures.words (omega
          (arith, c.requires))) ∙ feed_scalar x.feed.now
          (sym c.is_feed.ensures ∙ c.if-not-is_feed.false),
      let l = ap (λ (t : List ℕ). length
          (encode_all (settle (pending_of (policy_of t)
          c.read_state-state.result.held) other).text))
          (policy-lent x.feed.now) in
          let m = ap (λ (s : State). length (encode_all (settle (pending_of (policy_part x.feed.now) s.held) other).text))
          (c.read_state-state.ensures.words (omega
          (arith, c.requires))) in
          omega (arith, c.if-out-lt-END_ROOM.false, l, m, last-few x.feed.now x.out.now),
    )

pub put_state-requires : goal.put_state-requires
put_state-requires c =
    let x = c.args in omega (
      arith,
      feed_length x.feed.now
          (sym c.is_feed.ensures ∙ c.if-not-is_feed.false),
    )

pub returns : goal.returns
returns c =
    let x = c.args in
    let h = c.read_state-state.result.held in
    let b = policy-lent x.feed.now in
    ends-called (end_done x.feed.now x.out.now
    (sym c.is_feed.ensures ∙ c.if-not-is_feed.false)
    (c.read_state-state.ensures.words (omega
    (arith, c.requires)))
    c.if-state.false
    c.if-state-ne0.false c.if-out-lt-END_ROOM.false
    (put_as _ (ap (λ (l : List ℕ). encode_all (settle (pending_of (policy_of l) h) other).text) b)
    c.put_held-settled.ensures.text)
    (c.put_held-settled.ensures.counts ∙ ap
    (λ (l : List ℕ). (settle (pending_of (policy_of l) h) other).counts) b)
    c.add.ensures
    (put_as _ (ap (λ (s : State). bytes_of (state_words s)) c.ended_state.ensures)
    c.put_state.ensures))
