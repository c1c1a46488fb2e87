-- `feeding::held_counts` meets its contract: no base is held, or the rules give the counts.
use Rattle.policy.specs.PolicyBytes.{policy_of}
use Rattle.feeding.proofs.Settling.{counts_none, counts_some}
use Rattle.feeding.proofs.held_counts.Goals as goal

pub returns-then-base-eq0 : goal.returns-then-base-eq0
returns-then-base-eq0 c =
    let x = c.args in counts_none (policy_of x.policy.now) x.held x.next c.if-base-eq0.true
    c.empty.ensures

pub returns : goal.returns
returns c =
    let x = c.args in
    counts_some (policy_of x.policy.now) x.held x.next c.analyze_by_policy_bytes-outcome.result
    c.if-base-eq0.false c.analyze_by_policy_bytes-outcome.ensures
