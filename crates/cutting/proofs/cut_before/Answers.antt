use mathlib.Core.Path.{◌≡◌, ap, sym, ◌∙◌}
use native.Mathlib.Omega.{arith}
use native.Mathlib.Numerals.{add-one}
use Rattle.cutting.specs.Cut.{cut_before, cut_below}
use Rattle.cutting.proofs.Cuts.{from_end, step-below, step-here}
use Rattle.cutting.proofs.cut_before.Goals as goal

pub returns-then-text-offset : goal.returns-then-text-offset
returns-then-text-offset c = sym (from_end _ _ c.if-text-offset.true)

pub loop-at-init : goal.loop-at-init
unfolding cut_before
loop-at-init c =
    let x = c.args in
    (omega arith, ap (cut_below x.text.now) (sym (add-one x.offset)))

pub returns-then-begins_part : goal.returns-then-begins_part
returns-then-begins_part c =
    let l = c.loop-at in
    let x = c.args in
    sym (l.invariant.1 ∙ step-here x.text.now l.at c.loop-at-test.true l.invariant.0
    (sym c.begins_part.ensures ∙ c.if-begins_part.true))

pub loop-at-preserved : goal.loop-at-preserved
loop-at-preserved c =
    let l = c.loop-at in
    let x = c.args in (
      omega arith,
      l.invariant.1 ∙ step-below x.text.now l.at c.loop-at-test.true l.invariant.0
          (sym c.begins_part.ensures ∙ c.if-begins_part.false),
    )

pub returns : goal.returns
unfolding cut_below
returns c =
    let l = c.loop-at in
    let x = c.args in
    let z : l.at ≡ 0 = omega arith in
    sym (l.invariant.1 ∙ ap (cut_below x.text.now) z)
