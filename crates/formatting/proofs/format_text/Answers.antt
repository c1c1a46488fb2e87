-- `formatting::format_text` meets its contract.
use borrow.Author.Rules.{rules}
use mathlib.Core.Path.{◌≡◌, sym}
use Rattle.std.specs.Prelude.{Err}
use borrow.Author.Tests.{not-false, not-true}
use Rattle.base.proofs.Answering.{ends_as}
use Rattle.policy.specs.PolicyBytes.{policy_of}
use Rattle.formatter.specs.Theorems.{IntakeComesFirst}
use Rattle.formatting.proofs.ByCells.{format_unchanged}
use Rattle.formatter.proofs.Outcomes.{all_well_formed, comes_first, not_well_formed}
use Rattle.formatter.proofs.Passing.{first-passed, first-refused}
use Rattle.formatting.proofs.Surveying.{first-end, first-none}
use Rattle.formatting.proofs.format_text.Goals as goal

pub returns-in_err-first_tests : goal.returns-in_err-first_tests
unfolding IntakeComesFirst
returns-in_err-first_tests c =
    let x = c.args in
    let r : c.from_residual.result ≡ Err c.in_err-first_tests.field-0.0 = search rules in
    let refused = first-refused x.text.now x.policy.now c.first_tests.ensures c.in_err-first_tests.field-0.0 c.in_err-first_tests.was in
    rw r (ends_as (sym ((comes_first x.text.now x.policy.now c.in_err-first_tests.field-0.0 refused).0 x.out.now)))

pub returns-then-end-text : goal.returns-then-end-text
unfolding IntakeComesFirst
returns-then-end-text c =
    let x = c.args in
    let t = x.text.now in
    let p = x.policy.now in
    let f = first-passed t p c.first_tests.ensures c.in_ok-first_tests.was in
    let n = c.next_change-first.ensures in
    ends_as (sym ((comes_first t p _
    (not_well_formed t p f.0 f.1 (first-end (policy_of p) t n (not-true _ c.if-not-first.true)) c.if-end-text.true)).0 x.out.now))

pub returns-then-not-first : goal.returns-then-not-first
returns-then-not-first c =
    let x = c.args in
    let t = x.text.now in
    let p = x.policy.now in
    let f = first-passed t p c.first_tests.ensures c.in_ok-first_tests.was in
    let n = c.next_change-first.ensures in
    let m = not-true _ c.if-not-first.true in
    ends_as (format_unchanged p t (all_well_formed t p f.0 f.1 (first-end (policy_of p) t n m) c.if-end-text.false) x.out.now
    (first-none (policy_of p) t n m))

pub surely_fits-requires : goal.surely_fits-requires
surely_fits-requires c =
    let x = c.args in
    (first-passed x.text.now x.policy.now c.first_tests.ensures c.in_ok-first_tests.was).0

pub format_measured-requires : goal.format_measured-requires
format_measured-requires c =
    let x = c.args in
    let t = x.text.now in
    let p = x.policy.now in
    let f = first-passed t p c.first_tests.ensures c.in_ok-first_tests.was in
    record {
      short = f.0;
      is_policy_lem = f.1;
      is_next = c.next_change-first.ensures;
      is_present = not-false _ c.if-not-first.false;
    }

pub returns-then-not-surely_fits : goal.returns-then-not-surely_fits
returns-then-not-surely_fits c = ends_as c.format_measured.ensures

pub format_at_once-requires : goal.format_at_once-requires
format_at_once-requires c =
    let x = c.args in
    let t = x.text.now in
    let p = x.policy.now in
    let f = first-passed t p c.first_tests.ensures c.in_ok-first_tests.was in (
      record {
        short = f.0;
        is_policy_lem = f.1;
        is_next = c.next_change-first.ensures;
        is_present = not-false _ c.if-not-first.false;
      },
      c.surely_fits.ensures c.if-not-surely_fits.false,
    )

pub returns : goal.returns
returns c = ends_as c.format_at_once.ensures
