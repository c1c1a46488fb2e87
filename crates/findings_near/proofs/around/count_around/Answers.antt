-- `findings_near::around::count_around` meets its contract: `none-around` if the first search finds nothing before the end of the stretch,
-- else `some-around` (`CountPass`).
use mathlib.Core.Path.{◌∙◌}
use native.Mathlib.Omega.{arith}
use Rattle.policy.specs.PolicyBytes.{policy_of}
use Rattle.formatter.specs.Findings.{findings}
use Rattle.findings_near.proofs.AroundPass.{goes_on}
use Rattle.findings_near.proofs.CountPass.{none-around, some-around}
use Rattle.findings_near.proofs.NextRows.{from_bool_is, from_bool_small, span_advances}
use Rattle.findings_near.proofs.around.count_around.Goals as goal

pub returns-then-not-is_before : goal.returns-then-not-is_before
unfolding findings
returns-then-not-is_before c =
    let x = c.args in
    let n = c.next_finding-start in
    let b = c.is_before in
    let v = span_advances n.ensures in
    let e = none-around (policy_of x.policy.now) x.text.now x.from x.to n.ensures b.ensures
    c.if-not-is_before.true in record { inside = e.0; sharing = e.1; valid = omega (arith, c.valid_end-valid_up_to.ensures, v.valid, v.on) }

pub overflow_add-inside : goal.overflow_add-inside
overflow_add-inside c =
    let a = span_advances c.next_finding-start.ensures in
    let m = c.next_finding-last_start.ensures.0 in
    omega (
      arith,
      m.few,
      m.advances.inside (a.inside (omega arith)),
      c.from.ensures,
      from_bool_small c.is_inside.result,
      c.well_formed.0.1,
    )

pub overflow_add-sharing : goal.overflow_add-sharing
overflow_add-sharing c = omega (
  arith,
  c.from-first_sharing.ensures,
  from_bool_small c.is_sharing.result,
  c.from-2.ensures,
  from_bool_small c.is_before-2.result,
)

pub returns : goal.returns
unfolding findings
returns c =
    let x = c.args in
    let n = c.next_finding-start in
    let m = c.next_finding-last_start.ensures in
    let b = c.is_before in
    let on = goes_on n.result.start x.to b.ensures c.if-not-is_before.false in
    let v = span_advances n.ensures in
    let w = span_advances m in
    let e = some-around (policy_of x.policy.now) x.text.now x.from x.to n.ensures on.0 m
    c.is_inside.ensures (c.from.ensures ∙ from_bool_is c.is_inside.result) c.is_sharing.ensures
    (c.from-first_sharing.ensures ∙ from_bool_is c.is_sharing.result) c.is_before-2.ensures
    (c.from-2.ensures ∙ from_bool_is c.is_before-2.result) in record {
      inside = e.0;
      sharing = e.1;
      valid = omega (arith, c.valid_end-valid_up_to-2.ensures, v.valid, v.on, w.valid, w.on);
    }
