use native.Mathlib.Omega.{arith}
use Rattle.policy.specs.PolicyBytes.{policy_of}
use Rattle.text_pass.proofs.Passing.{finds_room, finds_some, over_none}
use Rattle.feeding.proofs.Summing.{summing_begin, summing-done, summing_on}
use Rattle.feeding.proofs.middle.text_totals.Goals as goal

pub loop-counts-init : goal.loop-counts-init
loop-counts-init c = let x = c.args in summing_begin (policy_of x.policy.now) x.text.now c.empty-totals.ensures

pub returns-then-not-present : goal.returns-then-not-present
returns-then-not-present c =
    let x = c.args in
    let n = c.next_finding-end in
    summing-done (policy_of x.policy.now) x.text.now c.loop-counts.invariant (over_none n.ensures.0)
    (n.ensures.2 c.if-not-present.true).0

pub loop-counts-smaller : goal.loop-counts-smaller
loop-counts-smaller c =
    let n = c.next_finding-end in
    let f = (n.ensures.1 c.if-not-present.false).1 in
    omega (arith, finds_some f, finds_room f, n.ensures.0.advances.on)

pub loop-counts-preserved : goal.loop-counts-preserved
loop-counts-preserved c =
    let x = c.args in
    let n = c.next_finding-end in
    let f = (n.ensures.1 c.if-not-present.false).2 (omega arith) in
    summing_on (policy_of x.policy.now) x.text.now c.loop-counts.invariant (over_none n.ensures.0) f
    c.add-totals.ensures (finds_room f.finds)
    c.requires
