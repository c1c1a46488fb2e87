-- `sheet_reading::read_sheet` meets its contract: a law for each answer.
use Rattle.std.proofs.Common.{rules, ◌≡◌, ℕ}
use Rattle.std.specs.Prelude.{Err, Result}
use mathlib.Core.Path.{ap, ◌∙◌}
use native.Mathlib.Omega.{arith}
use Rattle.base.proofs.Answering.{ends_as}
use Rattle.base.specs.Refusals.{unwritten}
use Rattle.base.specs.declared.Refusal.{Refusal}
use Rattle.sheet_reading.proofs.Outcomes.{read_1, read_checked}
use Rattle.sheet_reading.proofs.read_sheet.Goals as goal

pub returns-then-sheet-gt-TEXT_LIMIT : goal.returns-then-sheet-gt-TEXT_LIMIT
returns-then-sheet-gt-TEXT_LIMIT c = let x = c.args in ends_as (read_1 x.sheet.now x.out.now (omega (arith, c.if-sheet-gt-TEXT_LIMIT.true)))

pub returns-in_err-check_sheet : goal.returns-in_err-check_sheet
returns-in_err-check_sheet c =
    let x = c.args in
    let e : c.from_residual.result ≡ Err c.in_err-check_sheet.field-0.0 = search rules in
    ends_as (ap (λ (r : Result ℕ Refusal). unwritten r x.out.now) e
    ∙ read_checked x.sheet.now x.out.now _ (omega (arith, c.if-sheet-gt-TEXT_LIMIT.false)) c.check_sheet.ensures c.in_err-check_sheet.was)

pub returns : goal.returns
returns c =
    let x = c.args in
    ends_as (c.write_meaning.ensures
    ∙ read_checked x.sheet.now x.out.now _ (omega (arith, c.if-sheet-gt-TEXT_LIMIT.false)) c.check_sheet.ensures c.in_ok-check_sheet.was)
