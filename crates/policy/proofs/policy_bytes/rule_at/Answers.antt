-- `policy_bytes::rule_at` meets its contract: the two sets of the base's domain decide.
use mathlib.Core.Path.{ap₂, ◌∙◌}
use Rattle.policy.specs.Policy.{rule_of}
use Rattle.policy.proofs.ByEntry.{rule_by_sets}
use Rattle.policy.proofs.policy_bytes.rule_at.Goals as goal

pub returns : goal.returns
returns c =
    let x = c.args in
    let start = c.set_start-start in
    c.rule_of.ensures ∙ ap₂ rule_of c.holds_entry-prefers_bare.ensures c.holds_entry-bare_is_text.ensures
    ∙ rule_by_sets x.bytes.now x.index start.result x.is_keycap start.ensures.0
