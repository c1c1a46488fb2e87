-- `policy::rule_of` meets its contract, for each pair of arguments.
use Rattle.policy.specs.Policy.{rule_of}
use Rattle.policy.proofs.rule_of.Goals as goal

pub returns-then-bare_is_text : goal.returns-then-bare_is_text
unfolding rule_of
returns-then-bare_is_text c = simp (c.if-prefers_bare.true, c.if-bare_is_text.true)

pub returns-then-prefers_bare : goal.returns-then-prefers_bare
unfolding rule_of
returns-then-prefers_bare c = simp (c.if-prefers_bare.true, c.if-bare_is_text.false)

pub returns-then-bare_is_text-2 : goal.returns-then-bare_is_text-2
unfolding rule_of
returns-then-bare_is_text-2 c = simp (c.if-prefers_bare.false, c.if-bare_is_text-2.true)

pub returns : goal.returns
unfolding rule_of
returns c = simp (c.if-prefers_bare.false, c.if-bare_is_text-2.false)
