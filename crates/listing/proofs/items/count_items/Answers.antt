use mathlib.Core.Path.{sym, ap, ◌∙◌}
use native.Mathlib.Omega.{arith}
use lib.ListN.{length}
use Rattle.positions.specs.Positions.{no_count}
use Rattle.scanner.specs.Spans.{end_count, scan}
use Rattle.formatter.proofs.Steps.{cursor_goes}
use Rattle.listing.proofs.ItemRows.{same_number}
use Rattle.listing.proofs.items.count_items.Goals as goal

pub loop-item-init : goal.loop-item-init
loop-item-init c = (omega arith, omega arith, omega arith)

pub loop-item-smaller : goal.loop-item-smaller
loop-item-smaller c =
    let x = c.args in
    let l = c.loop-item in
    let s = cursor_goes x.text.now l.at no_count (sym c.in-Some.is ∙ c.next_item.ensures) in
    omega arith

pub loop-item-preserved : goal.loop-item-preserved
loop-item-preserved c =
    let x = c.args in
    let l = c.loop-item in
    let s = cursor_goes x.text.now l.at no_count (sym c.in-Some.is ∙ c.next_item.ensures) in
    let i = c.in-Some.item in
    (omega arith, omega arith, omega (arith, l.invariant.2, ap length s.1, same_number x.text.now i.end no_count (end_count i)))

pub returns : goal.returns
unfolding scan
returns c =
    let x = c.args in
    let l = c.loop-item in
    let s = cursor_goes x.text.now l.at no_count (sym c.in_default.is ∙ c.next_item.ensures) in
    omega (arith, l.invariant.2, ap length s)
