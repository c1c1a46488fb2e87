-- `listing::list_findings` meets its contract.
use Rattle.std.specs.Prelude.{Err}
use borrow.Author.Rules.{rules}
use mathlib.Core.Path.{◌≡◌, sym, ◌∙◌}
use Rattle.base.proofs.Answering.{ends_as}
use Rattle.base.specs.declared.Refusal.TheVariants.{NotWellFormed}
use Rattle.formatter.specs.Findings.{findings}
use Rattle.formatter.specs.Theorems.{IntakeComesFirst}
use Rattle.formatter.proofs.Calls.{pass_intake}
use Rattle.formatter.proofs.Outcomes.{all_well_formed, comes_first, not_well_formed}
use Rattle.formatter.proofs.Passing.{first-passed, first-refused}
use Rattle.formatter.proofs.RowBytes.{list-passed}
use Rattle.listing.proofs.list_findings.Goals as goal

pub returns-in_err-first_tests : goal.returns-in_err-first_tests
unfolding IntakeComesFirst
returns-in_err-first_tests c =
    let x = c.args in
    let refused = first-refused x.text.now x.policy.now c.first_tests.ensures c.in_err-first_tests.field-0.0 c.in_err-first_tests.was in
    let r : c.from_residual.result ≡ Err c.in_err-first_tests.field-0.0 = search rules in
    rw r (ends_as (sym ((comes_first x.text.now x.policy.now c.in_err-first_tests.field-0.0 refused).2 x.table.now)))

pub returns-then-valid_up_to-text : goal.returns-then-valid_up_to-text
unfolding IntakeComesFirst
returns-then-valid_up_to-text c =
    let x = c.args in
    let t = x.text.now in
    let p = x.policy.now in
    let f = first-passed t p c.first_tests.ensures c.in_ok-first_tests.was in
    let n = c.count_findings-findings in
    ends_as (sym ((comes_first t p (NotWellFormed n.result.valid_up_to)
    (not_well_formed t p f.0 f.1 n.ensures.valid c.if-valid_up_to-text.true)).2 x.table.now))

pub returns : goal.returns
unfolding findings
returns c =
    let x = c.args in
    let t = x.text.now in
    let p = x.policy.now in
    let f = first-passed t p c.first_tests.ensures c.in_ok-first_tests.was in
    let n = c.count_findings-findings.ensures in
    ends_as (c.fill_table.ensures
    ∙ list-passed t p x.table.now
    (pass_intake p t (all_well_formed t p f.0 f.1 n.valid c.if-valid_up_to-text.false)))
