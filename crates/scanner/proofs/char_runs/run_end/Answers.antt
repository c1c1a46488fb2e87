use mathlib.Core.Path.{ap, sym, ◌∙◌}
use native.Mathlib.Omega.{arith}
use Rattle.scanner.specs.Classes.{class_of}
use Rattle.scanner.specs.RunKinds.{in_run}
use Rattle.scanner.proofs.Peek.{seen, unseen}
use Rattle.scanner.proofs.RunsAt.{run_none, run_on, run_over}
use Rattle.scanner.proofs.char_runs.run_end.Goals as goal

pub returns-then-not-in_run : goal.returns-then-not-in_run
returns-then-not-in_run c =
    let x = c.args in
    let k = seen x.text.now c.loop-next.end
    (sym c.peek.ensures ∙ c.in-Some.is) in
    let e = ap (in_run x.kind) (sym k.class) ∙ sym c.in_run.ensures
    ∙ c.if-not-in_run.true in
    omega (arith, run_over (λ y. in_run x.kind (class_of y)) k e)

pub loop-next-smaller : goal.loop-next-smaller
loop-next-smaller c =
    let x = c.args in
    let k = seen x.text.now c.loop-next.end
    (sym c.peek.ensures ∙ c.in-Some.is) in
    omega (arith, k.on, k.room)

pub loop-next-preserved : goal.loop-next-preserved
loop-next-preserved c =
    let x = c.args in
    let k = seen x.text.now c.loop-next.end
    (sym c.peek.ensures ∙ c.in-Some.is) in
    let e = ap (in_run x.kind) (sym k.class) ∙ sym c.in_run.ensures
    ∙ c.if-not-in_run.false in
    c.loop-next.invariant ∙ run_on (λ y. in_run x.kind (class_of y)) k e

pub returns-in_default : goal.returns-in_default
returns-in_default c =
    let x = c.args in
    omega (
      arith,
      run_none (λ y. in_run x.kind (class_of y))
          (unseen x.text.now c.loop-next.end (sym c.peek.ensures ∙ c.in_default.is)),
    )
