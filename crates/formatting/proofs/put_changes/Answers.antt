use native.Mathlib.Omega.{arith}
use borrow.Author.Tests.{not-false, not-true}
use Rattle.base.proofs.Writer.{begin, finish}
use Rattle.policy.specs.PolicyBytes.{policy_of}
use Rattle.formatting.proofs.Surveying.{change-put, change-room, formatted_from_none, passed, passed-less}
use Rattle.formatting.proofs.put_changes.Goals as goal

pub loop-change-init : goal.loop-change-init
loop-change-init c =
    let r = c.requires in
    (r.0, begin _ _ _ r.2, r.1)

pub put_change-to-requires : goal.put_change-to-requires
put_change-to-requires c =
    let x = c.args in
    let p = policy_of x.policy.now in
    let t = x.text.now in
    let l = c.loop-change in
    let h = passed p t l.invariant.0 l.invariant.2 in
    (h.on, omega (arith, h.after, h.inside), change-room p t l.invariant.1 h)

pub returns-then-not-change : goal.returns-then-not-change
returns-then-not-change c =
    let x = c.args in
    let p = policy_of x.policy.now in
    let t = x.text.now in
    let l = c.loop-change in
    let h = passed p t l.invariant.0 l.invariant.2 in
    finish _ _ _ _ (change-put p t l.invariant.1 h c.put_change-to.ensures)
    (formatted_from_none p t l.change.end (l.invariant.2.1 (not-true _ c.if-not-change.true)).ends)

pub loop-change-smaller : goal.loop-change-smaller
loop-change-smaller c =
    let x = c.args in
    let p = policy_of x.policy.now in
    let t = x.text.now in
    let l = c.loop-change in
    passed-less p t l.invariant.0 l.invariant.2 (not-false _ c.if-not-change.false)

pub loop-change-preserved : goal.loop-change-preserved
loop-change-preserved c =
    let x = c.args in
    let p = policy_of x.policy.now in
    let t = x.text.now in
    let l = c.loop-change in
    let h = passed p t l.invariant.0 l.invariant.2 in
    (h.inside, change-put p t l.invariant.1 h c.put_change-to.ensures, c.next_change-change.ensures)
