-- `listing::items::put_items` meets its contract. The loop's invariant: the rows of the items that the scanner has left are still to be
-- written, from `to` on.
use Rattle.base.proofs.Writer.{Writing}
use Rattle.base.specs.Tables.{rows_bytes}
use Rattle.scanner.specs.Spans.{scan}
use Rattle.formatter.specs.List.{item_numbers}
use Rattle.text_scanner.specs.Scanner.{items_left}
use Rattle.listing.proofs.items.put_items.Given as goal

abbrev pub invariant-loop-item : goal.invariant-loop-item
invariant-loop-item l =
    Writing (rows_bytes item_numbers (scan l.text)) 0 l.fn.table (rows_bytes item_numbers (items_left l.item-iterator)) l.table l.to
