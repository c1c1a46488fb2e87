-- `formatting::format_measured` meets its contract.
use mathlib.Core.Path.{sym}
use native.Mathlib.Omega.{arith}
use Rattle.policy.specs.PolicyBytes.{policy_of}
use Rattle.formatter.specs.Theorems.{IntakeComesFirst}
use Rattle.formatting.proofs.ByCells.{format-short, format-written}
use Rattle.formatter.proofs.Outcomes.{all_well_formed, comes_first, not_well_formed}
use Rattle.formatting.proofs.Surveying.{first_counted}
use Rattle.formatting.proofs.format_measured.Goals as goal

pub survey_text-valid_up_to-requires : goal.survey_text-valid_up_to-requires
survey_text-valid_up_to-requires c = (c.requires.short, c.requires.is_next)

pub returns-then-valid_up_to-text : goal.returns-then-valid_up_to-text
unfolding IntakeComesFirst
returns-then-valid_up_to-text c =
    let x = c.args in
    let r = c.requires in
    sym ((comes_first x.text.now x.policy.now _
    (not_well_formed x.text.now x.policy.now r.short r.is_policy_lem c.survey_text-valid_up_to.ensures.valid c.if-valid_up_to-text.true)).0
    x.out.now)

pub returns-then-out-len : goal.returns-then-out-len
returns-then-out-len c =
    let x = c.args in
    let r = c.requires in
    let t = x.text.now in
    let p = x.policy.now in
    let s = c.survey_text-valid_up_to in
    let a = all_well_formed t p r.short r.is_policy_lem s.ensures.valid c.if-valid_up_to-text.false in
    format-short p t a x.out.now s.result.len (first_counted (policy_of p) t r.is_next r.is_present) s.ensures.len
    c.if-out-len.true

pub put_changes-requires : goal.put_changes-requires
put_changes-requires c = (
  omega arith,
  c.requires.is_next,
  omega
      (arith, c.survey_text-valid_up_to.ensures.len, c.if-out-len.false),
)

pub returns : goal.returns
returns c =
    let x = c.args in
    let r = c.requires in
    let t = x.text.now in
    let p = x.policy.now in
    let s = c.survey_text-valid_up_to in
    let a = all_well_formed t p r.short r.is_policy_lem s.ensures.valid c.if-valid_up_to-text.false in
    format-written p t a x.out.now _ s.result.len _ (first_counted (policy_of p) t r.is_next r.is_present) s.ensures.len
    (omega (arith, c.if-out-len.false)) c.put_changes.ensures
