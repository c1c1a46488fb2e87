-- `findings_near::around::findings_around` meets its contract.
use Rattle.std.specs.Prelude.{Err}
use borrow.Author.Rules.{rules}
use mathlib.Core.Path.{◌≡◌, ◌∙◌}
use Rattle.base.specs.declared.Refusal.TheVariants.{NotWellFormed}
use Rattle.formatter.proofs.Calls.{pass_intake}
use Rattle.formatter.proofs.Outcomes.{all_well_formed, not_well_formed}
use Rattle.formatter.proofs.Passing.{first-passed, first-refused}
use Rattle.findings_near.proofs.AroundPass.{ends_around}
use Rattle.findings_near.proofs.Calls.{around_passed, around_refused, cut_end}
use Rattle.findings_near.proofs.around.findings_around.Goals as goal

pub returns-in_err-first_tests : goal.returns-in_err-first_tests
returns-in_err-first_tests c =
    let x = c.args in
    let r : c.from_residual.result ≡ Err c.in_err-first_tests.field-0.0 = search rules in
    rw r (ends_around (around_refused x.text.now x.policy.now x.from x.to x.inner.now x.outer.now c.in_err-first_tests.field-0.0
    (first-refused x.text.now x.policy.now c.first_tests.ensures c.in_err-first_tests.field-0.0 c.in_err-first_tests.was)))

pub returns-then-valid_up_to-text : goal.returns-then-valid_up_to-text
returns-then-valid_up_to-text c =
    let x = c.args in
    let t = x.text.now in
    let p = x.policy.now in
    let f = first-passed t p c.first_tests.ensures c.in_ok-first_tests.was in
    let n = c.count_around-inside in
    ends_around (around_refused t p x.from x.to x.inner.now x.outer.now (NotWellFormed n.result.valid_up_to)
    (not_well_formed t p f.0 f.1 n.ensures.valid c.if-valid_up_to-text.true))

pub fill_tables-requires : goal.fill_tables-requires
fill_tables-requires c = let n = c.count_around-inside.ensures in (n.inside, n.sharing)

pub returns : goal.returns
returns c =
    let x = c.args in
    let t = x.text.now in
    let p = x.policy.now in
    let f = first-passed t p c.first_tests.ensures c.in_ok-first_tests.was in
    let n = c.count_around-inside.ensures in
    ends_around (c.fill_tables.ensures
    ∙ cut_end t p x.from x.to x.inner.now x.outer.now c.stretch_end-end.ensures
    ∙ around_passed t p x.from x.to x.inner.now x.outer.now
    (pass_intake p t (all_well_formed t p f.0 f.1 n.valid c.if-valid_up_to-text.false)))
