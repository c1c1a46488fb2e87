-- `feed_calls::begin` meets its contract: a law for each answer.
use mathlib.Core.Path.{sym, ◌∙◌}
use Rattle.base.proofs.Answering.{ends_as}
use Rattle.feed_calls.proofs.Parts.{begin_2, begin_8, begin_done}
use Rattle.feed_calls.proofs.begin.Goals as goal

pub returns-then-not-is_policy : goal.returns-then-not-is_policy
returns-then-not-is_policy c =
    let x = c.args in
    ends_as (begin_2 x.policy.now x.feed.now (sym c.is_policy.ensures ∙ c.if-not-is_policy.true) c.policy_refusal.ensures)

pub returns-then-feed-lt-CHANGING_BYTES : goal.returns-then-feed-lt-CHANGING_BYTES
returns-then-feed-lt-CHANGING_BYTES c =
    let x = c.args in
    ends_as (begin_8 x.policy.now x.feed.now (sym c.is_policy.ensures ∙ c.if-not-is_policy.false) c.if-feed-lt-CHANGING_BYTES.true)

pub returns : goal.returns
returns c =
    let x = c.args in
    ends_as (begin_done x.policy.now x.feed.now (sym c.is_policy.ensures ∙ c.if-not-is_policy.false) c.if-feed-lt-CHANGING_BYTES.false
    c.begin.ensures.buffer c.write_word.ensures.1
    c.write_bytes.ensures.1)
