-- `feed::is_feed` meets its contract: a law for each test.
use mathlib.Core.Path.{ap, sym, ◌∙◌}
use native.Mathlib.Omega.{arith}
use Rattle.policy.specs.PolicyBytes.{is_policy}
use Rattle.feed.proofs.Reading.{policy-lent}
use Rattle.feed.proofs.Testing.{feed_1, feed-2, feed-3, feed-4, feed-5, feed_base, feed_rest}
use Rattle.feed.proofs.is_feed.Goals as goal

pub returns-then-feed-ne-FEED_BYTES : goal.returns-then-feed-ne-FEED_BYTES
returns-then-feed-ne-FEED_BYTES c = let x = c.args in feed_1 x.feed.now c.if-feed-ne-FEED_BYTES.true

pub returns-then-not-is_small : goal.returns-then-not-is_small
returns-then-not-is_small c =
    let x = c.args in feed-2 x.feed.now c.if-feed-ne-FEED_BYTES.false
    (sym c.is_small.ensures ∙ c.if-not-is_small.true)

pub returns-then-not-is_scalar : goal.returns-then-not-is_scalar
returns-then-not-is_scalar c =
    let f = c.args.feed.now in
    feed-3 f c.if-feed-ne-FEED_BYTES.false (sym c.is_small.ensures ∙ c.if-not-is_small.false)
    (feed_base f c.word.ensures c.low.ensures (sym c.is_scalar.ensures ∙ c.if-not-is_scalar.true))

pub returns-then-not-is_unfinished : goal.returns-then-not-is_unfinished
returns-then-not-is_unfinished c =
    let f = c.args.feed.now in
    feed-4 f c.if-feed-ne-FEED_BYTES.false (sym c.is_small.ensures ∙ c.if-not-is_small.false)
    (feed_base f c.word.ensures c.low.ensures (sym c.is_scalar.ensures ∙ c.if-not-is_scalar.false))
    (feed_rest f c.word-2.ensures c.word-3.ensures
    (sym c.is_unfinished.ensures ∙ c.if-not-is_unfinished.true))

pub slice_bounds-is_policy-count : goal.slice_bounds-is_policy-count
slice_bounds-is_policy-count c = omega (arith, c.if-feed-ne-FEED_BYTES.false)

pub slice_bounds-is_policy-start : goal.slice_bounds-is_policy-start
slice_bounds-is_policy-start c = omega (arith, c.if-feed-ne-FEED_BYTES.false)

pub returns : goal.returns
returns c =
    let f = c.args.feed.now in
    feed-5 f c.if-feed-ne-FEED_BYTES.false (sym c.is_small.ensures ∙ c.if-not-is_small.false)
    (feed_base f c.word.ensures c.low.ensures (sym c.is_scalar.ensures ∙ c.if-not-is_scalar.false))
    (feed_rest f c.word-2.ensures c.word-3.ensures
    (sym c.is_unfinished.ensures ∙ c.if-not-is_unfinished.false))
    (c.is_policy.ensures ∙ ap is_policy (policy-lent f))
