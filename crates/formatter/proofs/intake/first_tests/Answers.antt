-- `formatter::intake::first_tests` meets its contract.
use Rattle.std.specs.Prelude.{Err}
use mathlib.Core.Path.{refl, sym, ap, ◌∙◌}
use native.Mathlib.Omega.{arith}
use lib.ListN.{length}
use borrow.Author.Tests.{le-leb, lt-leb}
use Rattle.base.proofs.Answering.{answers}
use Rattle.base.specs.Refusals.{checked}
use Rattle.base.specs.declared.Refusal.{Refusal}
use Rattle.formatter.proofs.Passing.{first_is}
use Rattle.formatter.proofs.intake.first_tests.Goals as goal

pub returns-then-text-gt-TEXT_LIMIT : goal.returns-then-text-gt-TEXT_LIMIT
returns-then-text-gt-TEXT_LIMIT c =
    let x = c.args in
    answers (sym (ap checked (first_is x.text.now x.policy.now (lt-leb (length x.text.now) 16777216 (omega arith)) refl)))

pub returns-then-not-is_policy : goal.returns-then-not-is_policy
returns-then-not-is_policy c =
    let x = c.args in
    let fails = sym c.is_policy.ensures ∙ c.if-not-is_policy.true in
    answers (ap (λ (r : Refusal). Err r) c.policy_refusal.ensures
    ∙ sym (ap checked (first_is x.text.now x.policy.now (le-leb (length x.text.now) 16777216 (omega arith)) fails)))

pub returns : goal.returns
returns c =
    let x = c.args in
    let fit = sym c.is_policy.ensures ∙ c.if-not-is_policy.false in
    answers (sym (ap checked (first_is x.text.now x.policy.now (le-leb (length x.text.now) 16777216 (omega arith)) fit)))
