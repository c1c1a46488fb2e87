use native.Mathlib.Omega.{arith}
use Rattle.positions.proofs.Counting.{at_start}
use Rattle.policy.specs.PolicyBytes.{policy_of}
use Rattle.formatter.specs.Findings.{findings}
use Rattle.findings_near.specs.Around.{inside, only_shares}
use Rattle.findings_near.proofs.AroundPass.{
  filling_begin,
  filling_end,
  filling-on,
  filling-room,
  goes-on-next,
  none_left,
  none-reached,
  stops,
}
use Rattle.findings_near.proofs.NextRows.{at_own, is_last, is_next_in}
use Rattle.findings_near.proofs.around.put_both.Goals as goal

pub loop-before-init : goal.loop-before-init
unfolding findings
loop-before-init c =
    let x = c.args in
    let p = policy_of x.policy.now in
    let t = x.text.now in (
      at_start t (omega (arith, c.well_formed.0.1)),
      filling_begin p t (inside x.from x.to) x.inner.now c.requires.0,
      filling_begin p t (only_shares x.from x.to) x.outer.now c.requires.1,
    )

pub shape_of-inner-then-not-is_before : goal.shape_of-inner-then-not-is_before
shape_of-inner-then-not-is_before c = c.loop-before.invariant.1.same

pub shape_of-outer-then-not-is_before : goal.shape_of-outer-then-not-is_before
shape_of-outer-then-not-is_before c = c.loop-before.invariant.2.same

pub returns-then-not-is_before : goal.returns-then-not-is_before
unfolding findings
returns-then-not-is_before c =
    let x = c.args in
    let p = policy_of x.policy.now in
    let t = x.text.now in
    let l = c.loop-before in
    let r = c.next_finding-start in
    let n = r.ensures in
    let b = c.is_before in
    let e = stops r.result.start x.to b.ensures c.if-not-is_before.true
    (λ q. none_left p t x.from x.to (is_last n q))
    (λ q h. none-reached p t x.from x.to (is_next_in n q (at_own l.invariant.0)) h) in
    record {
      inside = filling_end p t (inside x.from x.to) x.inner.now l.at l.invariant.1 e.inner;
      sharing = filling_end p t (only_shares x.from x.to) x.outer.now l.at l.invariant.2 e.outer;
    }

pub put_row_if-inner_to-requires : goal.put_row_if-inner_to-requires
put_row_if-inner_to-requires c w =
    let x = c.args in
    let l = c.loop-before in
    let b = c.is_before in
    let s = c.span_positions.ensures in
    let f = goes-on-next x.to c.next_finding-start.ensures b.ensures
    c.if-not-is_before.false
    l.invariant.0 s.first s.last in
    filling-room (policy_of x.policy.now) x.text.now (inside x.from x.to) x.inner.now l.invariant.1 f
    c.is_inside-inside.ensures w

pub put_row_if-outer_to-requires : goal.put_row_if-outer_to-requires
put_row_if-outer_to-requires c w =
    let x = c.args in
    let l = c.loop-before in
    let b = c.is_before in
    let s = c.span_positions.ensures in
    let f = goes-on-next x.to c.next_finding-start.ensures b.ensures
    c.if-not-is_before.false
    l.invariant.0 s.first s.last in
    filling-room (policy_of x.policy.now) x.text.now (only_shares x.from x.to) x.outer.now l.invariant.2 f
    c.is_sharing-sharing.ensures w

pub loop-before-smaller : goal.loop-before-smaller
loop-before-smaller c =
    let x = c.args in
    let b = c.is_before in
    let s = c.span_positions.ensures in
    let f = goes-on-next x.to c.next_finding-start.ensures b.ensures
    c.if-not-is_before.false
    c.loop-before.invariant.0 s.first s.last in
    omega (arith, f.on, f.some, f.room)

pub loop-before-preserved : goal.loop-before-preserved
loop-before-preserved c =
    let x = c.args in
    let p = policy_of x.policy.now in
    let t = x.text.now in
    let l = c.loop-before in
    let b = c.is_before in
    let s = c.span_positions.ensures in
    let f = goes-on-next x.to c.next_finding-start.ensures b.ensures
    c.if-not-is_before.false
    l.invariant.0 s.first s.last in (
      f.after,
      filling-on p t (inside x.from x.to) x.inner.now l.invariant.1 f c.is_inside-inside.ensures
          c.put_row_if-inner_to.ensures,
      filling-on p t (only_shares x.from x.to) x.outer.now l.invariant.2 f c.is_sharing-sharing.ensures
          c.put_row_if-outer_to.ensures,
    )
