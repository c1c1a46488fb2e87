use mathlib.Core.Path.{ap, subst, sym}
use native.Mathlib.Omega.{arith}
use Rattle.base.proofs.Writer.{Writing, begin, finish, put, room}
use Rattle.base.specs.Tables.{rows_bytes}
use Rattle.base.specs.Words.{bytes_of}
use Rattle.scanner.specs.Spans.{scan}
use Rattle.formatter.specs.List.{item_numbers}
use Rattle.formatter.proofs.RowBytes.{length_item}
use Rattle.text_scanner.specs.Scanner.{items_left}
use Rattle.text_scanner.specs.declared.Scanner.{Scanner}
use Rattle.listing.proofs.ItemRows.{rows-on}
use Rattle.listing.proofs.items.put_items.Goals as goal

pub loop-item-init : goal.loop-item-init
unfolding scan
loop-item-init c =
    let x = c.args in
    let all = rows_bytes item_numbers (scan x.text.now) in
    subst (λ (s : Scanner). Writing all 0 x.table.now (rows_bytes item_numbers (items_left s)) x.table.now 0)
    (sym c.into_iter-item-iterator.ensures.into_iter_gives) (begin all 0 x.table.now (omega (arith, c.requires)))

pub put_item-to-requires : goal.put_item-to-requires
put_item-to-requires c =
    let x = c.args in
    let l = c.loop-item in
    let item = c.in-Some.item in
    omega (
      arith,
      room (rows_bytes item_numbers (scan x.text.now)) 0 x.table.now (rows_bytes item_numbers (items_left l.item-iterator))
          (bytes_of (item_numbers item)) (rows_bytes item_numbers (items_left c.next.new.self)) l.invariant
          (rows-on c.in-Some.ensures.steps),
      length_item item,
    )

pub loop-item-preserved : goal.loop-item-preserved
loop-item-preserved c =
    let x = c.args in
    let l = c.loop-item in
    put (rows_bytes item_numbers (scan x.text.now)) 0 x.table.now (rows_bytes item_numbers (items_left l.item-iterator))
    (rows_bytes item_numbers (items_left c.next.new.self)) l.invariant c.put_item-to.ensures (rows-on c.in-Some.ensures.steps)

pub returns : goal.returns
unfolding rows_bytes
returns c =
    let x = c.args in
    let l = c.loop-item in
    finish (rows_bytes item_numbers (scan x.text.now)) 0 x.table.now (rows_bytes item_numbers (items_left l.item-iterator)) l.invariant
    (ap (rows_bytes item_numbers) c.in-None.ensures.steps.0)
