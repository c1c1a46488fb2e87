-- `policy_change::is_changing` meets its contract: a law for each test.
use mathlib.Core.Path.{ap, sym, ◌∙◌}
use Rattle.policy.specs.PolicyBytes.{is_policy}
use Rattle.policy_change.proofs.Testing.{policy-lent, test_1, test-2, test-3, test-4}
use Rattle.policy_change.proofs.is_changing.Goals as goal

pub returns-then-feed-ne-CHANGING_BYTES : goal.returns-then-feed-ne-CHANGING_BYTES
returns-then-feed-ne-CHANGING_BYTES c = test_1 c.args.feed.now c.if-feed-ne-CHANGING_BYTES.true

pub returns-then-not-is_feed : goal.returns-then-not-is_feed
returns-then-not-is_feed c =
    test-2 c.args.feed.now c.if-feed-ne-CHANGING_BYTES.false (sym
    c.is_feed.ensures ∙ c.if-not-is_feed.true)

pub returns-then-read_word-eq0 : goal.returns-then-read_word-eq0
returns-then-read_word-eq0 c =
    test-3 c.args.feed.now
    c.if-feed-ne-CHANGING_BYTES.false (sym c.is_feed.ensures ∙ c.if-not-is_feed.false)
    (sym c.read_word.ensures ∙ c.if-read_word-eq0.true)

pub returns : goal.returns
returns c =
    test-4 c.args.feed.now
    c.if-feed-ne-CHANGING_BYTES.false (sym
    c.is_feed.ensures ∙ c.if-not-is_feed.false)
    (λ e. c.if-read_word-eq0.false (c.read_word.ensures ∙ e)) (c.is_policy.ensures ∙ ap is_policy
    (policy-lent c.args.feed.now))
