-- `policy_migration::is_old_policy` meets its contract: a law of Putting for each set, in order.
use mathlib.Core.Path.{sym, ◌∙◌}
use native.Mathlib.Omega.{arith}
use Rattle.policy_migration.specs.Carry.{bare_as_text_set, bare_as_text_keycap_set, prefer_bare_set, prefer_bare_keycap_set}
use Rattle.policy_migration.proofs.Putting.{first-unused, fourth-unused, second-unused, third-unused, unused_set}
use Rattle.policy_migration.proofs.is_old_policy.Goals as goal

pub returns-then-not-no_unused : goal.returns-then-not-no_unused
returns-then-not-no_unused c =
    let x = c.args in
    first-unused x.entries.now x.policy.now (sym (unused_set x.entries.now x.policy.now prefer_bare_set _ (omega arith) _
    c.no_unused.ensures) ∙ c.if-not-no_unused.true)

pub returns-then-not-no_unused-2 : goal.returns-then-not-no_unused-2
returns-then-not-no_unused-2 c =
    let x = c.args in
    second-unused x.entries.now x.policy.now (sym (unused_set x.entries.now x.policy.now prefer_bare_set _ (omega arith) _
    c.no_unused.ensures) ∙ c.if-not-no_unused.false)
    (sym (unused_set x.entries.now x.policy.now prefer_bare_keycap_set _ (omega arith) _ c.no_unused-2.ensures) ∙ c.if-not-no_unused-2.true)

pub returns-then-not-no_unused-3 : goal.returns-then-not-no_unused-3
returns-then-not-no_unused-3 c =
    let x = c.args in
    third-unused x.entries.now x.policy.now (sym (unused_set x.entries.now x.policy.now prefer_bare_set _ (omega arith) _
    c.no_unused.ensures) ∙ c.if-not-no_unused.false)
    (sym (unused_set x.entries.now x.policy.now prefer_bare_keycap_set _ (omega arith) _
    c.no_unused-2.ensures) ∙ c.if-not-no_unused-2.false)
    (sym (unused_set x.entries.now x.policy.now bare_as_text_set _ (omega arith) _ c.no_unused-3.ensures) ∙ c.if-not-no_unused-3.true)

pub returns : goal.returns
returns c =
    let x = c.args in
    fourth-unused x.entries.now x.policy.now (sym (unused_set x.entries.now x.policy.now prefer_bare_set _ (omega arith) _
    c.no_unused.ensures) ∙ c.if-not-no_unused.false) (sym (unused_set x.entries.now x.policy.now prefer_bare_keycap_set _
    (omega arith) _ c.no_unused-2.ensures) ∙ c.if-not-no_unused-2.false)
    (sym (unused_set x.entries.now x.policy.now bare_as_text_set _ (omega arith) _ c.no_unused-3.ensures)
    ∙ c.if-not-no_unused-3.false) _ (unused_set x.entries.now x.policy.now bare_as_text_keycap_set _ (omega arith) _
    c.no_unused-4.ensures)
