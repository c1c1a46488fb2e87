-- `formatter::intake::intake` meets its contract.
use Rattle.std.specs.Prelude.{Err}
use borrow.Author.Rules.{rules}
use mathlib.Core.Path.{◌≡◌, sym, ap, ◌∙◌}
use Prim.Native.Nat.{ℕ}
use native.Mathlib.Omega.{arith}
use lib.ListN.{length}
use borrow.Author.Tests.{eq-eqb, le-leb, ne_eqb}
use Rattle.base.proofs.Answering.{answers}
use Rattle.base.specs.Refusals.{checked}
use Rattle.base.specs.declared.Refusal.TheVariants.{NotWellFormed}
use Rattle.utf8.specs.Rfc3629.{valid_up_to_of}
use Rattle.formatter.proofs.Passing.{first-passed, first-refused, intake_is}
use Rattle.formatter.proofs.intake.intake.Goals as goal

pub returns-in_err-first_tests : goal.returns-in_err-first_tests
returns-in_err-first_tests c =
    let x = c.args in
    let f = c.in_err-first_tests in
    let r : c.from_residual.result ≡ Err f.field-0.0 = search rules in
    answers (r ∙ sym (ap checked (first-refused x.text.now x.policy.now c.first_tests.ensures f.field-0.0 f.was)))

pub returns-then-valid_up_to-text : goal.returns-then-valid_up_to-text
returns-then-valid_up_to-text c =
    let x = c.args in
    let t = x.text.now in
    let v = c.valid_up_to-valid_up_to in
    let f = first-passed t x.policy.now c.first_tests.ensures c.in_ok-first_tests.was in
    let n = ne_eqb (valid_up_to_of t) (length t) (λ e. omega arith) in
    answers (ap (λ (n : ℕ). Err (NotWellFormed n)) v.ensures
    ∙ sym (ap checked (intake_is t x.policy.now (le-leb (length t) 16777216 f.0) f.1 n)))

pub returns : goal.returns
returns c =
    let x = c.args in
    let t = x.text.now in
    let v = c.valid_up_to-valid_up_to in
    let f = first-passed t x.policy.now c.first_tests.ensures c.in_ok-first_tests.was in
    let n = eq-eqb (valid_up_to_of t) (length t) (omega arith) in
    answers (sym (ap checked (intake_is t x.policy.now (le-leb (length t) 16777216 f.0) f.1 n)))
