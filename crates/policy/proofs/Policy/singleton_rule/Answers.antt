-- `Policy::singleton_rule` meets its contract: it is the rule for the results of the two key sets.
use mathlib.Core.Path.{ap₂, ◌∙◌}
use Rattle.policy.specs.Policy.{rule_of, singleton_rule}
use Rattle.policy.proofs.Policy.singleton_rule.Goals as goal

pub returns : goal.returns
unfolding singleton_rule
returns c = c.rule_of.ensures ∙ ap₂ rule_of c.holds-prefers_bare.ensures c.holds-bare_is_text.ensures
