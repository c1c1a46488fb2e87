-- Spans tile the bytes and are the encodings of their items; a scan or a cursor at a span's end goes on with the spans after it.
use mathlib.Core.Path.{◌≡◌, refl, ap, sym, ◌∙◌, subst}
use mathlib.Core.List.{List, [], ◌∷◌, ◌++◌, append-nil, cons-ne-nil, head-eq_of_cons-eq, tail-eq_of_cons-eq}
use Prim.Native.Nat.{ℕ, ◌+◌, ◌-◌, ◌≤◌}
use native.Mathlib.Omega.{arith}
use native.Mathlib.Nat.{zero-add}
use lib.ListN.{length, take, drop}
use Rattle.utf8.specs.Rfc3629.{chars, encode_all, valid_up_to_of}
use Rattle.positions.specs.Positions.{no_count}
use Rattle.positions.specs.declared.TextCount.{TextCount}
use Rattle.scanner.specs.Items.{Item, items, join}
use Rattle.scanner.specs.Spans.{count_after, end_count, scan, scan_from, size, spans, width}
use Rattle.scanner.specs.Theorems.{SpansOfItems, no_spans, span-and, Tiles}
use Rattle.scanner.specs.declared.ScanItem.{ScanItem}
use Rattle.scanner.proofs.Tiling.{Filled, no_item, and_item, filled, tiling, items-after, join_append}
use Rattle.scanner.proofs.Rescan.{size_append}
use Rattle.scanner.proofs.Bytes.{size-width, width_some, take_chars_lem, chars-from, size-chars}

-- ---- spans tile

pub spans_tile : {xs : List Item} (at : ℕ) (before : TextCount) → Filled xs → Tiles at (spans at before xs) (at + size width (join xs))
unfolding spans
spans_tile at before no_item = omega arith
spans_tile at before (and_item {x = x} {xs = xs} c s l h) =
    let end = at + size width x.chars in
    let n : 1 ≤ size width x.chars = let k = width_some c in omega (arith, ap (size width) l) in
    let b : end + size width (join xs) ≡ at + size width (x.chars ++ join xs) = omega (arith, size_append width x.chars (join xs)) in
    let on = count_after before x in
    (refl, omega arith, subst (Tiles end (spans end on xs)) b (spans_tile end on h))

pub scan_tiles : (text : List ℕ) (at : ℕ) (before : TextCount) → Tiles at (scan_from text at before) (at + valid_up_to_of (drop at text))
unfolding scan_from
scan_tiles text at before =
    let t = chars (drop at text) in
    subst (λ (n : ℕ). Tiles at (spans at before (items t)) (at + n)) (ap (size width) (tiling t) ∙ size-chars (drop at text))
    (spans_tile at before (filled t))

pub scan_tiles_all : (text : List ℕ) → Tiles 0 (scan text) (valid_up_to_of text)
unfolding scan
scan_tiles_all text = subst (Tiles 0 (scan_from text 0 no_count)) (zero-add (valid_up_to_of text)) (scan_tiles text 0 no_count)

-- ---- spans are the encodings of their items

spans_of_items : (text : List ℕ) (at : ℕ) (before : TextCount) (xs : List Item) → chars (drop at text) ≡ join xs
    → SpansOfItems text (spans at before xs) xs
unfolding spans
spans_of_items text at before [] e = no_spans
spans_of_items text at before (x ∷ xs) e =
    let n = size width x.chars in
    let d : at + n - at ≡ length (encode_all x.chars) = let w = size-width x.chars in omega arith in
    span-and (ap (λ (m : ℕ). take m (drop at text)) d ∙ take_chars_lem (drop at text) x.chars (join xs) e) refl refl
    (spans_of_items text (at + n) (count_after before x) xs (chars-from text at x.chars (join xs) e))

pub scan-spans_of_items : (text : List ℕ) (at : ℕ) (before : TextCount)
    → SpansOfItems text (scan_from text at before) (items (chars (drop at text)))
unfolding scan_from
scan-spans_of_items text at before = spans_of_items text at before (items (chars (drop at text))) (sym (tiling (chars (drop at text))))

pub spans-first : {text : List ℕ} {s : ScanItem} {ss : List ScanItem} {x : Item} {xs : List Item} → SpansOfItems text (s ∷ ss) (x ∷ xs)
    → take (s.end - s.start) (drop s.start text) ≡ encode_all x.chars
spans-first (span-and b c d h) = b

-- ---- a scan from a span's end

-- The items of the spans up to a span, and the items after it.
record Parted (at : ℕ) (xs : List Item) (x : ScanItem) (after : List ScanItem) : Type 0 where
  up_to : List Item
  rest : List Item
  whole : xs ≡ up_to ++ rest
  ends : x.end ≡ at + size width (join up_to)
  spanned : after ≡ spans x.end (end_count x) rest

part : (at : ℕ) (count : TextCount) (xs : List Item) (before : List ScanItem) (x : ScanItem) (after : List ScanItem)
    → spans at count xs ≡ before ++ x ∷ after → Parted at xs x after
unfolding spans
part at count [] [] x after e = absurd (cons-ne-nil x after (sym e))
part at count [] (y ∷ before) x after e = absurd (cons-ne-nil y (before ++ x ∷ after) (sym e))
part at count (i ∷ xs) [] x after e =
    let h = head-eq_of_cons-eq e in
    record {
      up_to = i ∷ [];
      rest = xs;
      whole = refl;
      ends = ap (λ (s : ScanItem). s.end) (sym h) ∙ ap (λ (l : List ℕ). at + size width l) (sym (append-nil i.chars));
      spanned = sym (tail-eq_of_cons-eq e) ∙ ap (λ (s : ScanItem). spans s.end (end_count s) xs) h;
    }
part at count (i ∷ xs) (y ∷ before) x after e =
    let r = part (at + size width i.chars) (count_after count i) xs before x after (tail-eq_of_cons-eq e) in
    record {
      up_to = i ∷ r.up_to;
      rest = r.rest;
      whole = ap (λ (l : List Item). i ∷ l) r.whole;
      ends = let f = r.ends in omega (arith, size_append width i.chars (join r.up_to));
      spanned = r.spanned;
    }

pub scan-after : (text : List ℕ) (at : ℕ) (count : TextCount) (before : List ScanItem) (x : ScanItem) (after : List ScanItem)
    → scan_from text at count ≡ before ++ x ∷ after → scan_from text x.end (end_count x) ≡ after
unfolding scan_from
scan-after text at count before x after e =
    let t = chars (drop at text) in
    let r = part at count (items t) before x after e in
    let c : t ≡ join r.up_to ++ join r.rest = sym (tiling t) ∙ ap join r.whole ∙ join_append r.up_to r.rest in
    let d : chars (drop x.end text) ≡ join r.rest = ap (λ (n : ℕ). chars (drop n text)) r.ends
    ∙ chars-from text at (join r.up_to) (join r.rest) c in
    ap (spans x.end (end_count x)) (ap items d ∙ items-after t r.up_to r.rest r.whole) ∙ sym r.spanned
