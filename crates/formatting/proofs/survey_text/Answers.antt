use native.Mathlib.Omega.{arith}
use borrow.Author.Tests.{not-false, not-true}
use Rattle.policy.specs.PolicyBytes.{policy_of}
use Rattle.formatting.proofs.Surveying.{passed, passed-less, survey_begin, survey-fits, survey-length, survey-on, survey-valid}
use Rattle.formatting.proofs.survey_text.Goals as goal

pub loop-change-init : goal.loop-change-init
loop-change-init c = (survey_begin _ _, c.requires.1)

pub overflow_sub-len : goal.overflow_sub-len
overflow_sub-len c =
    let x = c.args in
    let p = policy_of x.policy.now in
    let l = c.loop-change in
    (passed p x.text.now l.invariant.0.inside l.invariant.1).on

pub overflow_add-len : goal.overflow_add-len
overflow_add-len c =
    let x = c.args in
    let p = policy_of x.policy.now in
    let l = c.loop-change in
    omega (
      arith,
      survey-fits p x.text.now l.invariant.0 l.invariant.1 c.selector_len.ensures,
      c.requires.0,
    )

pub overflow_add-len-in-loop-change : goal.overflow_add-len-in-loop-change
overflow_add-len-in-loop-change c =
    let x = c.args in
    let p = policy_of x.policy.now in
    let l = c.loop-change in
    omega (
      arith,
      survey-fits p x.text.now l.invariant.0 l.invariant.1 c.selector_len.ensures,
      c.requires.0,
    )

pub returns-then-not-change : goal.returns-then-not-change
returns-then-not-change c =
    let x = c.args in
    let p = policy_of x.policy.now in
    let l = c.loop-change in
    let s = survey-on p x.text.now l.invariant.0 l.invariant.1 c.selector_len.ensures in
    let e = (l.invariant.1.1 (not-true _ c.if-not-change.true)).ends in
    record { valid = survey-valid p x.text.now s e; len = survey-length p x.text.now s e }

pub loop-change-smaller : goal.loop-change-smaller
loop-change-smaller c =
    let x = c.args in
    let p = policy_of x.policy.now in
    let l = c.loop-change in
    passed-less p x.text.now l.invariant.0.inside l.invariant.1 (not-false _ c.if-not-change.false)

pub loop-change-preserved : goal.loop-change-preserved
loop-change-preserved c =
    let x = c.args in
    let p = policy_of x.policy.now in
    let l = c.loop-change in
    (survey-on p x.text.now l.invariant.0 l.invariant.1 c.selector_len.ensures, c.next_change-change.ensures)
