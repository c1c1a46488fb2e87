use mathlib.Core.Path.{refl, sym, ◌∙◌}
use native.Mathlib.Omega.{arith}
use Rattle.positions.specs.Positions.{no_count}
use Rattle.scanner.specs.Spans.{scan}
use Rattle.analysis.proofs.StartingItems.{cursor_starting}
use Rattle.replacing.proofs.render.item_starts_at.Goals as goal

pub loop-item-init : goal.loop-item-init
loop-item-init c = (omega arith, refl)

pub returns-then-offset-at : goal.returns-then-offset-at
unfolding scan
returns-then-offset-at c =
    let l = c.loop-item in
    let x = c.args in
    let s = cursor_starting x.text.now x.offset l.at no_count
    (sym c.in-Some.is ∙ c.next_item.ensures) in
    sym (s.3 c.if-offset-at.true) ∙ l.invariant.1

pub loop-item-smaller : goal.loop-item-smaller
loop-item-smaller c =
    let l = c.loop-item in
    let x = c.args in
    let s = cursor_starting x.text.now x.offset l.at no_count
    (sym c.in-Some.is ∙ c.next_item.ensures) in
    omega (arith, s.0, s.1)

pub loop-item-preserved : goal.loop-item-preserved
loop-item-preserved c =
    let l = c.loop-item in
    let x = c.args in
    let s = cursor_starting x.text.now x.offset l.at no_count
    (sym c.in-Some.is ∙ c.next_item.ensures) in
    (s.1, sym (s.2 c.if-offset-at.false) ∙ l.invariant.1)

pub returns : goal.returns
unfolding scan
returns c =
    let l = c.loop-item in
    let x = c.args in
    sym (cursor_starting x.text.now x.offset l.at no_count (sym c.in_default.is ∙ c.next_item.ensures)) ∙ l.invariant.1
