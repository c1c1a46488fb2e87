-- `feeding::begin` meets its contract: a law for each answer.
use mathlib.Core.Path.{ap, sym, ◌∙◌}
use Rattle.base.specs.Words.{bytes_of}
use Rattle.policy.specs.PolicyBytes.{policy_of}
use Rattle.base.proofs.Answering.{ends_as}
use Rattle.base.proofs.Writer.{put_as}
use Rattle.feed.specs.declared.State.{State}
use Rattle.feed.specs.Bytes.{state_words}
use Rattle.feeding.proofs.Beginning.{begin_2, begin_8, begin_done}
use Rattle.feeding.proofs.begin.Goals as goal

pub returns-then-not-is_policy : goal.returns-then-not-is_policy
returns-then-not-is_policy c =
    let x = c.args in
    ends_as (begin_2 x.policy.now x.feed.now (sym c.is_policy.ensures ∙ c.if-not-is_policy.true)
    c.policy_refusal.ensures)

pub returns-then-feed-lt-FEED_BYTES : goal.returns-then-feed-lt-FEED_BYTES
returns-then-feed-lt-FEED_BYTES c =
    let x = c.args in
    ends_as (begin_8 x.policy.now x.feed.now (sym c.is_policy.ensures ∙ c.if-not-is_policy.false)
    c.if-feed-lt-FEED_BYTES.true)

pub returns : goal.returns
returns c =
    let x = c.args in
    ends_as (begin_done x.policy.now x.feed.now
    (sym c.is_policy.ensures ∙ c.if-not-is_policy.false)
    c.if-feed-lt-FEED_BYTES.false
    (put_as _ (ap (λ (s : State). bytes_of (state_words s))
    (c.new_state.ensures (policy_of x.policy.now)))
    c.put_state.ensures) c.write_bytes.ensures.1)
