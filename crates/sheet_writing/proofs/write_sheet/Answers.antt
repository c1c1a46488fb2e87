-- `sheet_writing::write_sheet` meets its contract: a law for each answer.
use Rattle.std.proofs.Common.{rules, ◌≡◌, ℕ}
use Rattle.std.specs.Prelude.{Err, Result}
use mathlib.Core.Path.{ap, sym, ◌∙◌}
use Rattle.base.specs.Refusals.{unwritten}
use Rattle.base.specs.declared.Refusal.{Refusal}
use Rattle.base.proofs.Answering.{ends_as}
use Rattle.sheet_writing.proofs.Outcomes.{write-refused, write_done}
use Rattle.sheet_writing.proofs.write_sheet.Goals as goal

pub returns-in_err-policy : goal.returns-in_err-policy
returns-in_err-policy c =
    let x = c.args in
    let e : c.from_residual.result ≡ Err c.in_err-policy.field-0.0 = search rules in
    ends_as (ap (λ (r : Result ℕ Refusal). unwritten r x.out.now) e
    ∙ write-refused x.policy.now x.out.now (sym c.try_from.ensures ∙ c.in_err-policy.was))

pub returns : goal.returns
returns c =
    let x = c.args in
    ends_as (write_done x.policy.now x.out.now (sym c.try_from.ensures ∙ c.in_ok-policy.was) c.put_sheet.ensures)
