-- `lines::check_message` meets its contract, by the contract of `intake` for the default policy.
use mathlib.Core.Path.{ap, ◌∙◌}
use mathlib.Core.List.{List}
use Prim.Native.Nat.{ℕ}
use Rattle.base.specs.Refusals.{checked}
use Rattle.formatter.specs.Intake.{intake_refusal}
use Rattle.report.proofs.lines.check_message.Goals as goal

pub returns : goal.returns
returns c =
    let m = c.args.message.now in
    c.intake.ensures.same ∙ ap (λ (p : List ℕ). checked (intake_refusal m p)) c.put_default_policy.ensures.out_after
