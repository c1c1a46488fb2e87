-- The rows of the items that a scanner gives, put one after the other, and their number.
use Rattle.scanner.specs.declared.ScanItem.{ScanItem}
use mathlib.Core.Path.{◌≡◌, refl, sym, ap, ◌∙◌}
use mathlib.Core.List.{List, [], ◌∷◌, ◌++◌}
use Prim.Native.Nat.{ℕ, suc, ◌+◌}
use lib.ListN.{drop, length}
use Rattle.utf8.specs.Rfc3629.{chars}
use Rattle.base.specs.Tables.{rows_bytes}
use Rattle.positions.specs.declared.TextCount.{TextCount}
use Rattle.scanner.specs.Items.{Item, items}
use Rattle.scanner.specs.Spans.{count_after, scan_from, size, spans, width}
use Rattle.base.specs.Words.{bytes_of}
use Rattle.formatter.specs.List.{item_numbers}

-- There is a span for each item.
pub spans-number : (at : ℕ) (before : TextCount) (xs : List Item) → length (spans at before xs) ≡ length xs
unfolding spans
spans-number at before [] = refl
spans-number at before (x ∷ xs) = ap suc (spans-number (at + size width x.chars) (count_after before x) xs)

-- The number of items does not depend on the characters and units before them.
pub same_number : (text : List ℕ) (at : ℕ) (before other : TextCount) → length (scan_from text at before) ≡ length (scan_from text at other)
unfolding scan_from
same_number text at before other =
    let xs = items (chars (drop at text)) in
    spans-number at before xs ∙ sym (spans-number at other xs)

-- The rows of the items that are left, after one item more.
pub rows-on : {xs ys : List ScanItem} {x : ScanItem} → xs ≡ x ∷ ys
    → rows_bytes item_numbers xs ≡ bytes_of (item_numbers x) ++ rows_bytes item_numbers ys
unfolding rows_bytes
rows-on e = ap (rows_bytes item_numbers) e
