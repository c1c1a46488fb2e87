use mathlib.Core.Path.{refl, ap, sym, ◌∙◌}
use mathlib.Core.Bool.{false, not}
use mathlib.Core.List.{[], ◌∷◌}
use native.Mathlib.Omega.{arith}
use Rattle.scanner.specs.RunKinds.{is_link_class}
use Rattle.scanner.proofs.ClassTests.{link_test}
use Rattle.scanner.proofs.Peek.{seen, seen_arm, unseen}
use Rattle.scanner.proofs.RunsAt.{run_none, run_on, run_over}
use Rattle.analysis.proofs.ChoicesAt.{link_end, off_link}
use borrow.Enum.Refused.{opened}
use Rattle.replacing.proofs.choice.end_before_link.Goals as goal

pub returns-in-Link : goal.returns-in-Link
returns-in-Link c =
    let x = c.args in
    let k = seen c.args.raw.now
    c.loop-seen.end
    (sym c.peek.ensures ∙ c.in-Some.is) in
    let e = ap not (link_test _ ∙ ap is_link_class (sym k.class ∙ c.in-Link.is)) in
    omega (arith, run_over off_link k e, link_end x.raw.now x.at)

pub loop-seen-smaller : goal.loop-seen-smaller
loop-seen-smaller c =
    let k = seen c.args.raw.now
    c.loop-seen.end
    (sym c.peek.ensures ∙ c.in-Some.is) in
    omega (arith, k.on, k.room)

pub loop-seen-preserved : goal.loop-seen-preserved
loop-seen-preserved c =
    let k = seen c.args.raw.now
    c.loop-seen.end
    (sym c.peek.ensures ∙ c.in-Some.is) in
    let e = ap not (link_test _ ∙ ap is_link_class (sym k.class)
    ∙ seen_arm k is_link_class false (0 ∷ 2 ∷ 3 ∷ 4 ∷ 5 ∷ 6 ∷ 7 ∷ []) (refl, tt, refl, refl, refl, refl, refl, refl)
    (opened c.in_default-class.in_default-class-own.keys2)) in
    c.loop-seen.invariant ∙ run_on off_link k e

pub returns : goal.returns
returns c =
    let x = c.args in
    omega (
      arith,
      run_none off_link (unseen x.raw.now c.loop-seen.end
          (sym c.peek.ensures ∙ c.in_default.is)),
      link_end x.raw.now x.at,
    )
