use mathlib.Core.Path.{sym, ◌∙◌}
use native.Mathlib.Omega.{arith}
use Rattle.scanner.proofs.SelectorBytes.{no_more, selector_here}
use Rattle.scanner.proofs.selectors.selectors_end.Goals as goal

pub overflow_add-at : goal.overflow_add-at
overflow_add-at c =
    let x = c.args in
    let l = c.loop-at in
    let h = selector_here x.text.now l.at c.in-Some.field-0
    (sym c.selector_at.ensures ∙ c.in-Some.is) in
    omega (arith, h.read.room, c.well_formed.0.0)

pub loop-at-smaller : goal.loop-at-smaller
loop-at-smaller c =
    let x = c.args in
    let l = c.loop-at in
    let h = selector_here x.text.now l.at c.in-Some.field-0
    (sym c.selector_at.ensures ∙ c.in-Some.is) in
    omega (arith, h.read.room)

pub loop-at-preserved : goal.loop-at-preserved
loop-at-preserved c =
    let x = c.args in
    let l = c.loop-at in
    let h = selector_here x.text.now l.at c.in-Some.field-0
    (sym c.selector_at.ensures ∙ c.in-Some.is) in
    omega (arith, l.invariant, h.runs_on)

pub returns : goal.returns
returns c =
    let x = c.args in
    let l = c.loop-at in
    omega (arith, l.invariant, no_more x.text.now l.at (sym c.selector_at.ensures ∙ c.in_default.is))
