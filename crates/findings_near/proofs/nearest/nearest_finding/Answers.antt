-- `findings_near::nearest::nearest_finding` meets its contract.
use Rattle.std.specs.Prelude.{Err}
use borrow.Author.Rules.{rules}
use mathlib.Core.Path.{◌≡◌, ◌∙◌}
use Rattle.base.specs.declared.Refusal.TheVariants.{NotWellFormed}
use Rattle.formatter.proofs.Calls.{pass_intake}
use Rattle.formatter.proofs.Outcomes.{all_well_formed, not_well_formed}
use Rattle.formatter.proofs.Passing.{first-passed, first-refused}
use Rattle.base.proofs.Answering.{ends_as}
use Rattle.findings_near.proofs.Calls.{near_passed, near_refused}
use Rattle.findings_near.proofs.nearest.nearest_finding.Goals as goal

pub returns-in_err-first_tests : goal.returns-in_err-first_tests
returns-in_err-first_tests c =
    let x = c.args in
    let r : c.from_residual.result ≡ Err c.in_err-first_tests.field-0.0 = search rules in
    rw r (ends_as (near_refused x.text.now x.policy.now x.offset x.row.now c.in_err-first_tests.field-0.0
    (first-refused x.text.now x.policy.now c.first_tests.ensures c.in_err-first_tests.field-0.0 c.in_err-first_tests.was)))

pub returns-then-valid_up_to-text : goal.returns-then-valid_up_to-text
returns-then-valid_up_to-text c =
    let x = c.args in
    let t = x.text.now in
    let p = x.policy.now in
    let f = first-passed t p c.first_tests.ensures c.in_ok-first_tests.was in
    let n = c.nearest_in-finding in
    ends_as (near_refused t p x.offset x.row.now (NotWellFormed n.result.valid_up_to)
    (not_well_formed t p f.0 f.1 n.ensures.valid c.if-valid_up_to-text.true))

pub write_found-requires : goal.write_found-requires
write_found-requires c = c.nearest_in-finding.ensures.some

pub returns : goal.returns
returns c =
    let x = c.args in
    let t = x.text.now in
    let p = x.policy.now in
    let f = first-passed t p c.first_tests.ensures c.in_ok-first_tests.was in
    let n = c.nearest_in-finding.ensures in
    ends_as (c.write_found.ensures
    ∙ near_passed t p x.offset x.row.now
    (pass_intake p t (all_well_formed t p f.0 f.1 n.valid c.if-valid_up_to-text.false)) n.nearest)
