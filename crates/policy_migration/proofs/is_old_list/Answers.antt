-- `policy_migration::is_old_list` meets its contract: a law of Putting for each test.
use Rattle.policy_migration.proofs.Putting.{by_order, odd-list, other-count}
use Rattle.policy_migration.proofs.is_old_list.Goals as goal

pub returns-then-entries-ne0 : goal.returns-then-entries-ne0
returns-then-entries-ne0 c = let x = c.args in odd-list x.entries.now x.policy.now c.if-entries-ne0.true

pub returns-then-policy-words : goal.returns-then-policy-words
returns-then-policy-words c = let x = c.args in other-count x.entries.now x.policy.now c.if-policy-words.true

pub returns : goal.returns
returns c =
    let x = c.args in
    by_order x.entries.now x.policy.now c.if-entries-ne0.false c.if-policy-words.false _ c.is_ascending.ensures
