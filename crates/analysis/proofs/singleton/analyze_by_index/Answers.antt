-- `analysis::singleton::analyze_by_index` meets its contract: the policy's rule for the entry is its rule for the base.
use mathlib.Core.Path.{ap, sym, ◌∙◌}
use mathlib.Core.Bool.{Bool}
use Rattle.emoji.specs.Theorems.{NoIndexNoEntry}
use Rattle.emoji.proofs.Claims.{no_index_no_entry}
use Rattle.policy.specs.Policy.{entry_rule}
use Rattle.policy.specs.PolicyBytes.{policy_of}
use Rattle.policy.proofs.ByEntry.{rule_by_entry}
use Rattle.analysis.specs.Rules.{by_keycap, run_with}
use Rattle.analysis.proofs.Rules.{has_entry, outcome_no_entry}
use Rattle.analysis.proofs.singleton.analyze_by_index.Goals as goal

pub returns-in-None : goal.returns-in-None
unfolding NoIndexNoEntry
returns-in-None c known =
    let x = c.args in
    let e = known ∙ c.in-None.is in
    c.without_entry.ensures ∙ sym
    (outcome_no_entry (policy_of x.policy.now) x.base x.next (run_with x.first x.count)
    ((no_index_no_entry x.base).0 e))

pub returns-in-Some : goal.returns-in-Some
returns-in-Some c known =
    let x = c.args in
    let p = policy_of x.policy.now in
    let e = known ∙ c.in-Some.is in
    c.with_entry.ensures p (has_entry x.base c.in-Some.index e)
    (c.rule_at-rule.ensures ∙ ap (λ (b : Bool). entry_rule p c.in-Some.index b) c.is_keycap.ensures
    ∙ sym (rule_by_entry p x.base c.in-Some.index (by_keycap x.next) e))
