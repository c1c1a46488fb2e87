-- `item_scanner::next_item` meets its contract: the item is its first character and the rest (Cursor, cursor_item).
use mathlib.Core.Path.{sym, ◌∙◌}
use Rattle.item_scanner.proofs.Cursor.{cursor_end, cursor_item}
use Rattle.scanner.proofs.Peek.{seen, unseen}
use Rattle.item_scanner.proofs.next_item.Goals as goal

pub returns : goal.returns
returns c =
    let x = c.args in
    let i = c.item_rest-rest in
    let f = c.start_state-first in
    let k = seen x.text.now x.at (sym c.peek.ensures ∙ c.in_ok-found.was) in
    cursor_item k f.result i.result.end i.result.tags_complete c.kind_of.result x.before
    c.count_between.result c.add_counts-after.result f.ensures i.ensures.end i.ensures.tags c.kind_of.ensures
    c.count_between.ensures c.add_counts-after.ensures

pub returns-in_err-found : goal.returns-in_err-found
returns-in_err-found c =
    let x = c.args in
    c.from_residual.ensures ∙ sym (cursor_end x.before (unseen x.text.now x.at (sym c.peek.ensures ∙ c.in_err-found.was)))
