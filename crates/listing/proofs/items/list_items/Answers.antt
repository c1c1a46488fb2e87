-- `listing::items::list_items` meets its contract.
use Rattle.std.specs.Prelude.{Err}
use borrow.Author.Rules.{rules}
use mathlib.Core.Path.{◌≡◌, sym, ◌∙◌}
use native.Mathlib.Omega.{arith}
use Rattle.base.proofs.Answering.{ends_as}
use Rattle.base.proofs.TableBytes.{rows-refused, rows-room, rows_written}
use Rattle.scanner.specs.Spans.{scan}
use Rattle.scanner.specs.TextCheck.{text_refusal}
use Rattle.formatter.specs.List.{item_bytes, item_numbers}
use Rattle.formatter.proofs.Passing.{checked-passed, checked_refused}
use Rattle.formatter.proofs.RowBytes.{items-by, length_item}
use Rattle.listing.proofs.items.list_items.Goals as goal

pub returns-in_err-check_text : goal.returns-in_err-check_text
returns-in_err-check_text c =
    let x = c.args in
    let t = x.text.now in
    let r : c.from_residual.result ≡ Err c.in_err-check_text.field-0.0 = search rules in
    rw r (ends_as (items-by t x.table.now
    (checked_refused (text_refusal t) c.in_err-check_text.field-0.0 (sym c.check_text.ensures.same ∙ c.in_err-check_text.was))))

pub returns-then-table-items : goal.returns-then-table-items
returns-then-table-items c =
    let x = c.args in
    let t = x.text.now in
    let e = checked-passed (text_refusal t)
    (sym c.check_text.ensures.same ∙ c.in_ok-check_text.was) in
    let n = c.count_items-items.ensures in
    ends_as (rows-refused item_numbers item_bytes length_item (omega arith) (scan t) x.table.now n (omega arith)
    ∙ items-by t x.table.now e)

pub put_items-requires : goal.put_items-requires
put_items-requires c =
    let x = c.args in
    rows-room item_numbers item_bytes length_item (omega arith) (scan x.text.now) x.table.now
    c.count_items-items.ensures (omega arith)

pub returns : goal.returns
returns c =
    let x = c.args in
    let t = x.text.now in
    let e = checked-passed (text_refusal t)
    (sym c.check_text.ensures.same
    ∙ c.in_ok-check_text.was) in
    let n = c.count_items-items.ensures in
    ends_as (rows_written item_numbers item_bytes length_item (omega arith) (scan t) x.table.now n (omega arith)
    c.put_items.ensures ∙ items-by t x.table.now e)
