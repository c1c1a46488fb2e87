-- `formatting::format_answer` meets its contract: each return by the law of formatting for its case.
use borrow.Author.Rules.{rules}
use Rattle.base.specs.declared.Refusal.{Refusal}
use Rattle.std.specs.Prelude.{Result, Option, Err}
use mathlib.Core.Path.{◌≡◌, ap, sym}
use Prim.Native.Nat.{ℕ}
use native.Mathlib.Omega.{arith}
use borrow.Author.Tests.{not-false, not-true}
use Rattle.base.specs.Refusals.{After}
use Rattle.policy.specs.PolicyBytes.{policy_of}
use Rattle.formatter.specs.Theorems.{IntakeComesFirst}
use Rattle.formatting.proofs.ByCells.{format_fits, format-short, format_unchanged}
use Rattle.formatter.proofs.Outcomes.{all_well_formed, comes_first, not_well_formed}
use Rattle.formatter.proofs.Passing.{first-passed, first-refused}
use Rattle.formatting.proofs.Surveying.{first_counted, first-none}
use Rattle.formatting.proofs.format_answer.Goals as goal

abbrev said : After (Result (Option ℕ) Refusal) ℕ → Result (Option ℕ) Refusal
said x = x.answer

pub returns-in_err-first_tests : goal.returns-in_err-first_tests
unfolding IntakeComesFirst
returns-in_err-first_tests c =
    let x = c.args in
    let refused = first-refused x.text.now x.policy.now c.first_tests.ensures c.in_err-first_tests.field-0.0 c.in_err-first_tests.was in
    let r : c.from_residual.result ≡ Err c.in_err-first_tests.field-0.0 = search rules in
    rw r (λ out l. sym (ap said ((comes_first x.text.now x.policy.now c.in_err-first_tests.field-0.0 refused).0 out)))

pub survey_text-valid_up_to-requires : goal.survey_text-valid_up_to-requires
survey_text-valid_up_to-requires c =
    let x = c.args in
    let f = first-passed x.text.now x.policy.now c.first_tests.ensures c.in_ok-first_tests.was in
    (f.0, c.next_change-first.ensures)

pub returns-then-valid_up_to-text : goal.returns-then-valid_up_to-text
unfolding IntakeComesFirst
returns-then-valid_up_to-text c =
    let x = c.args in
    let t = x.text.now in
    let p = x.policy.now in
    let f = first-passed t p c.first_tests.ensures c.in_ok-first_tests.was in
    λ out l. sym (ap said ((comes_first t p _ (not_well_formed t p f.0 f.1 c.survey_text-valid_up_to.ensures.valid
    c.if-valid_up_to-text.true)).0 out))

pub returns-then-not-first : goal.returns-then-not-first
returns-then-not-first c =
    let x = c.args in
    let t = x.text.now in
    let p = x.policy.now in
    let f = first-passed t p c.first_tests.ensures c.in_ok-first_tests.was in
    let a = all_well_formed t p f.0 f.1 c.survey_text-valid_up_to.ensures.valid c.if-valid_up_to-text.false in
    λ out l. ap said (format_unchanged p t a out (first-none (policy_of p) t c.next_change-first.ensures (not-true _ c.if-not-first.true)))

pub returns-then-room-wanted : goal.returns-then-room-wanted
returns-then-room-wanted c =
    let x = c.args in
    let t = x.text.now in
    let p = x.policy.now in
    let f = first-passed t p c.first_tests.ensures c.in_ok-first_tests.was in
    let a = all_well_formed t p f.0 f.1 c.survey_text-valid_up_to.ensures.valid c.if-valid_up_to-text.false in
    let n = first_counted (policy_of p) t c.next_change-first.ensures (not-false _ c.if-not-first.false) in
    λ out l. ap said (format-short p t a out c.survey_text-valid_up_to.result.len n c.survey_text-valid_up_to.ensures.len
    (omega (arith, l, c.if-room-wanted.true)))

pub returns : goal.returns
returns c =
    let x = c.args in
    let t = x.text.now in
    let p = x.policy.now in
    let f = first-passed t p c.first_tests.ensures c.in_ok-first_tests.was in
    let a = all_well_formed t p f.0 f.1 c.survey_text-valid_up_to.ensures.valid c.if-valid_up_to-text.false in
    let n = first_counted (policy_of p) t c.next_change-first.ensures (not-false _ c.if-not-first.false) in
    λ out l. format_fits p t a out c.survey_text-valid_up_to.result.len n c.survey_text-valid_up_to.ensures.len
    (omega (arith, l, c.if-room-wanted.false))
