-- Every report fits: a text has at most as many findings as bytes, and the offsets and counts have at most five digits.
use mathlib.Core.Path.{ap}
use mathlib.Core.Bool.{Bool, true, false, cond}
use mathlib.Core.List.{List, [], ◌∷◌, ◌++◌, map}
use Prim.Native.Nat.{ℕ, ◌+◌, ◌*◌, ◌≤◌}
use native.Mathlib.Omega.{arith}
use lib.ListN.{length, length-append, length-map}
use Rattle.utf8.specs.Rfc3629.{chars}
use Rattle.utf8.proofs.Texts.{valid_up_to_le}
use Rattle.emoji.specs.Presentation.{as_selector}
use Rattle.policy.specs.declared.Policy.{Policy}
use Rattle.scanner.specs.Items.{Item, items, join}
use Rattle.scanner.specs.Spans.{Found, found, size, width}
use Rattle.scanner.proofs.Bytes.{size-chars}
use Rattle.scanner.proofs.Rescan.{size_append}
use Rattle.scanner.proofs.Tiling.{Filled, and_item, filled, no_item, tiling}
use Rattle.message_io.specs.Lines.{finding_line, total_line}
use Rattle.message_io.proofs.LineLengths.{finding_length, total_length}
use Rattle.analysis.specs.Analysis.{count_cells, following, is_finding, non_canonicality}
use Rattle.analysis.specs.CellView.{total_cells}
use Rattle.analysis.specs.Cells.{Cell, cells, leading, unsplit}
use Rattle.analysis.specs.Counts.{total}
use Rattle.analysis.specs.Findings.{totals}
use Rattle.analysis.specs.declared.types.Finding.{Finding}
use Rattle.analysis.specs.declared.types.NonCanonicality.{NonCanonicality}
use Rattle.analysis.proofs.Cells.{split-whole}
use Rattle.analysis.proofs.Lengths.{bytes_some}
use Rattle.analysis.proofs.Measuring.{few}
use Rattle.formatter.specs.List.{count_numbers}
use Rattle.formatter.specs.Findings.{finding_row, row_in}
use Rattle.formatter.proofs.CellView.{totals-by-cells}
use Rattle.formatter.proofs.Marks.{found_totals}
use Rattle.report.specs.Report.{lines_from, message_limit, report_lines, report_numbers, finding_lines, totals_at}
use Rattle.report.specs.Theorems.{report_room}

module _ (p : Policy) where
  -- ---- counts

  -- The counts are at most the number of characters.
  cells-few : (xs : List Cell) → total (count_cells p xs) ≤ length (unsplit xs)
  unfolding count_cells
  cells-few [] = omega arith
  cells-few (x ∷ xs) =
      let l = length-append (map as_selector x.after) (unsplit xs) in
      omega (arith, few p x.char (following xs) x.after, cells-few xs, l, length-map x.after as_selector)

  chars-few : (t : List ℕ) → total (total_cells p t) ≤ length t
  unfolding total_cells
  chars-few t =
      let l = length-append (map as_selector (leading t)) (unsplit (cells t)) in
      omega (arith, cells-few (cells t), ap length (split-whole t), l, length-map (leading t) as_selector)

  -- ---- lines

  -- The line of a finding of a short text has at most 60 bytes.
  row_length : (f : Finding) → f.start ≤ message_limit → f.end ≤ message_limit → total f.counts ≤ message_limit
      → length (finding_line (report_numbers f)) ≤ 60
  unfolding report_numbers
  row_length f s e t = finding_length f.start (f.end ∷ count_numbers f.counts) (omega arith)

  totals_length : (n : NonCanonicality) → total n ≤ message_limit → length (total_line (count_numbers n)) ≤ 54
  totals_length n t = total_length (count_numbers n) (omega arith)

  -- The lines of items have at most 60 bytes for each character: an item has at least one character.
  lines-few : (text : List ℕ) (n : ℕ) {xs : List Item} → Filled xs → n + size width (join xs) ≤ message_limit
      → total (found_totals p (found (is_finding p) width n xs)) ≤ message_limit
      → length (finding_lines (map (finding_row p text) (found (is_finding p) width n xs))) ≤ 60 * length (join xs)
  unfolding found finding_lines totals finding_row
  lines-few text n no_item h k = omega arith
  lines-few text n (and_item {x = x} {xs = xs} c s l f) h k =
      go (is_finding p x) (lines-few text (n + size width x.chars) f (omega (arith, size_append width x.chars (join xs)))) k
    where
      F : List Found
      F = found (is_finding p) width (n + size width x.chars) xs

      row : Finding
      row = row_in text n (n + size width x.chars) (non_canonicality p x)

      go : (b : Bool)
          → (total (found_totals p F) ≤ message_limit → length (finding_lines (map (finding_row p text) F)) ≤ 60 * length (join xs))
          → total (found_totals p (cond b (record { start = n; item = x } ∷ F) F)) ≤ message_limit
          → length (finding_lines (map (finding_row p text) (cond b (record { start = n; item = x } ∷ F) F)))
          ≤ 60 * length (x.chars ++ join xs)
      go true i k =
          let l' = length-append (finding_line (report_numbers row)) (finding_lines (map (finding_row p text) F)) in
          let w = size_append width x.chars (join xs) in
          let r = row_length row (omega arith) (omega (arith, w)) (omega arith) in
          omega (arith, i (omega arith), l', r, length-append x.chars (join xs), ap length l)
      go false i k = omega (arith, i k, length-append x.chars (join xs))

-- The report of a message up to the limit is not longer than `report_room`.
pub report_fits : (p : Policy) (text : List ℕ) → length text ≤ message_limit → length (report_lines p text) ≤ report_room
unfolding report_lines lines_from totals_at
report_fits p text h =
    let t = chars text in
    let fs = found (is_finding p) width 0 (items t) in
    let n = ap total (totals-by-cells p t) in
    let b = bytes_some t in
    let v = valid_up_to_le text in
    let s = size-chars text in
    let k : total (found_totals p fs) ≤ message_limit = omega (arith, n, chars-few p t, b, s, v) in
    let f = lines-few p text 0 (filled t) (omega (arith, ap (size width) (tiling t), s, v)) k in
    let l = length-append (finding_lines (map (finding_row p text) fs)) (total_line (count_numbers (found_totals p fs))) in
    omega (arith, l, f, totals_length p (found_totals p fs) k, ap length (tiling t), b, s, v)
