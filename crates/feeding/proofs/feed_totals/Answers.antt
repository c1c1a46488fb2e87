-- `feeding::feed_totals` meets its contract: zeros, or the totals with those of the held base.
use mathlib.Core.Path.{ap, sym, ◌∙◌}
use mathlib.Core.List.{List}
use Prim.Native.Nat.{ℕ}
use Rattle.policy.specs.PolicyBytes.{policy_of}
use Rattle.scanner.specs.declared.char_class.Class.TheVariants.{Other as other}
use Rattle.feed.specs.Feed.{settle}
use Rattle.feed.specs.Bytes.{pending_of}
use native.Mathlib.Omega.{arith}
use Rattle.feed.proofs.Reading.{policy-lent}
use Rattle.feeding.proofs.Settling.{feed_length}
use Rattle.feeding.proofs.Ending.{totals-none, totals-some}
use Rattle.feeding.proofs.feed_totals.Goals as goal

pub returns-then-not-is_feed : goal.returns-then-not-is_feed
returns-then-not-is_feed c =
    let x = c.args in totals-none x.feed.now
    (sym c.is_feed.ensures ∙ c.if-not-is_feed.true) c.empty.ensures

pub slice_bounds-held_counts-count : goal.slice_bounds-held_counts-count
slice_bounds-held_counts-count c =
    let x = c.args in omega (
      arith,
      feed_length x.feed.now
          (sym c.is_feed.ensures ∙ c.if-not-is_feed.false),
    )

pub slice_bounds-held_counts-start : goal.slice_bounds-held_counts-start
slice_bounds-held_counts-start c =
    let x = c.args in omega (
      arith,
      feed_length x.feed.now
          (sym c.is_feed.ensures ∙ c.if-not-is_feed.false),
    )

pub returns : goal.returns
returns c =
    let x = c.args in
    totals-some x.feed.now (sym c.is_feed.ensures ∙ c.if-not-is_feed.false) (c.read_state-state.ensures.words
    (omega (arith, c.requires)))
    (c.held_counts.ensures ∙ ap
    (λ (l : List ℕ). (settle (pending_of (policy_of l) c.read_state-state.result.held) other).counts)
    (policy-lent x.feed.now)) c.add.ensures
