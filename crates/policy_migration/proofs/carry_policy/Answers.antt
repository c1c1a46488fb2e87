-- `policy_migration::carry_policy` meets its contract: a law of Putting for each answer.
use mathlib.Core.Path.{sym, ◌∙◌}
use Rattle.base.proofs.Answering.{ends_as}
use Rattle.policy_migration.proofs.Putting.{bad-list, bad-policy, carries, listed-ascends, no_room}
use Rattle.policy_migration.proofs.carry_policy.Goals as goal

pub returns-then-not-is_old_list : goal.returns-then-not-is_old_list
returns-then-not-is_old_list c =
    let x = c.args in
    ends_as (bad-list x.entries.now x.policy.now x.out.now
    (sym c.is_old_list.ensures ∙ c.if-not-is_old_list.true))

pub returns-then-not-is_old_policy : goal.returns-then-not-is_old_policy
returns-then-not-is_old_policy c =
    let x = c.args in
    ends_as (bad-policy x.entries.now x.policy.now x.out.now
    (sym c.is_old_list.ensures ∙ c.if-not-is_old_list.false)
    (sym c.is_old_policy.ensures ∙ c.if-not-is_old_policy.true))

pub returns-then-out-lt-POLICY_BYTES : goal.returns-then-out-lt-POLICY_BYTES
returns-then-out-lt-POLICY_BYTES c =
    let x = c.args in
    ends_as (no_room x.entries.now x.policy.now x.out.now (sym c.is_old_list.ensures
    ∙ c.if-not-is_old_list.false) (sym c.is_old_policy.ensures ∙ c.if-not-is_old_policy.false) c.if-out-lt-POLICY_BYTES.true)

pub put_policy-requires : goal.put_policy-requires
put_policy-requires c =
    let x = c.args in (
      c.if-out-lt-POLICY_BYTES.false,
      c.put_default.ensures.1,
      listed-ascends x.entries.now
          x.policy.now (sym c.is_old_list.ensures ∙ c.if-not-is_old_list.false),
    )

pub returns : goal.returns
returns c =
    let x = c.args in
    ends_as (carries x.entries.now x.policy.now x.out.now (sym
    c.is_old_list.ensures ∙ c.if-not-is_old_list.false)
    (sym c.is_old_policy.ensures ∙ c.if-not-is_old_policy.false)
    c.if-out-lt-POLICY_BYTES.false _ c.put_policy.ensures)
