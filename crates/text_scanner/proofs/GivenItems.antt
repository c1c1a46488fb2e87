-- Successive calls of a scanner answer the items of its text. The bytes of all items, one after the other, are the text.
use Rattle.base.specs.declared.Refusal.{Refusal}
use Rattle.std.specs.Prelude.{Ok, Err, Some, Result, ⊤}
use mathlib.Core.Path.{◌≡◌, refl, ap, sym, ◌∙◌, subst}
use mathlib.Core.List.{List, [], ◌∷◌, ◌++◌}
use Prim.Native.Nat.{ℕ, zero, suc, ◌+◌, ◌-◌, ◌≤◌}
use native.Mathlib.Omega.{arith}
use lib.ListN.{drop, length, length-drop, take}
use lib.Seq.{drop-drop, drop-length, drop-nil, take-add}
use borrow.Author.Tests.{le-leb}
use Rattle.utf8.specs.Rfc3629.{chars, encode_all, valid_up_to_of}
use Rattle.utf8.proofs.Folds.{chars_end}
use Rattle.utf8.proofs.Fronts.{read_char_nil}
use Rattle.utf8.proofs.Texts.{valid_up_to_le}
use Rattle.positions.specs.Positions.{no_count}
use Rattle.positions.specs.declared.TextCount.{TextCount}
use Rattle.scanner.specs.Items.{Item, items}
use Rattle.text_scanner.specs.Scanner.{Place, answer_at, items_at, items_of, join_raw, part, place_after}
use Rattle.text_scanner.specs.Scanner.{place_after_step, start_place, verdict_of}
use Rattle.scanner.specs.Spans.{first_of, scan, scan_at, scan_from, spans}
use Rattle.scanner.specs.Theorems.{SpansOfItems, Tiles}
use Rattle.scanner.specs.declared.ScanItem.{ScanItem}
use Rattle.scanner.proofs.Spans.{scan-after, scan-spans_of_items, scan_tiles, spans-first}

-- ---- successive calls

-- After an answer the scanner's items are those after the first.
after_one : (text : List ℕ) (p : Place) → items_at text (place_after_step (answer_at text p) p) ≡ drop 1 (items_at text p)
unfolding scan_at first_of
after_one text p = go (items_at text p) refl
  where
    go : (xs : List ScanItem) → items_at text p ≡ xs → items_at text (place_after_step (first_of xs) p) ≡ drop 1 xs
    go [] e = e
    go (x ∷ xs) e = scan-after text p.offset _ [] x xs e

drop_more : (n : ℕ) (xs : List ScanItem) → drop n (drop 1 xs) ≡ drop (suc n) xs
drop_more n [] = drop-nil n
drop_more n (x ∷ xs) = refl

pub after-calls : (text : List ℕ) (p : Place) (n : ℕ) → items_at text (place_after text p n) ≡ drop n (items_at text p)
unfolding place_after
after-calls text p zero = refl
after-calls text p (suc n) =
    after-calls text (place_after_step (answer_at text p) p) n ∙ ap (drop n) (after_one text p) ∙ drop_more n (items_at text p)

pub gives-items : (text : List ℕ) (p : Place) (n : ℕ) → answer_at text (place_after text p n) ≡ first_of (drop n (items_at text p))
unfolding scan_at
gives-items text p n = ap first_of (after-calls text p n)

-- ---- the scanner that `scan` makes

-- No item begins at the end of a text.
none_after : (text : List ℕ) (before : TextCount) → scan_from text (length text) before ≡ []
unfolding scan_from spans items
none_after text before = ap (λ (t : List ℕ). spans (length text) before (items t))
    (ap chars (drop-length text) ∙ chars_end [] read_char_nil)

pub scan-gives : (text : List ℕ) → items_at text (start_place (verdict_of text) text) ≡ items_of (verdict_of text) text
unfolding scan
scan-gives text = go (verdict_of text)
  where
    go : (v : Result ⊤ Refusal) → items_at text (start_place v text) ≡ items_of v text
    go (Ok x) = refl
    go (Err r) = none_after text no_count

-- ---- the bytes of an item

-- A part within the text has the bytes of the text there.
part_is : (text : List ℕ) (start end : ℕ) → start ≤ end → end ≤ length text → part text start end ≡ take (end - start) (drop start text)
part_is text start end l m = simp (le-leb start end l, le-leb end (length text) m)

tiles_le : {a b : ℕ} (xs : List ScanItem) → Tiles a xs b → a ≤ b
tiles_le [] e = omega arith
tiles_le (x ∷ xs) t = let l = tiles_le xs t.2 in omega (arith, t.0, t.1)

-- An item that a scanner answers lies within the text.
within : (text : List ℕ) (at : ℕ) (before : TextCount) (x : ScanItem) (xs : List ScanItem) → scan_from text at before ≡ x ∷ xs
    → (x.start ≤ x.end) × (x.end ≤ length text)
within text at before x xs e =
    let t : Tiles at (x ∷ xs) (at + valid_up_to_of (drop at text)) =
    subst (λ (ys : List ScanItem). Tiles at ys (at + valid_up_to_of (drop at text)))
    e (scan_tiles text at before) in
    let l = tiles_le xs t.2 in
    (omega (arith, t.1), omega (arith, t.0, t.1, valid_up_to_le (drop at text), length-drop at text))

pub raw_bytes : (text : List ℕ) (p : Place) (x : ScanItem) (i : Item) (is : List Item) → answer_at text p ≡ Some x
    → items (chars (drop p.offset text)) ≡ i ∷ is → part text x.start x.end ≡ encode_all i.chars
unfolding scan_at first_of
raw_bytes text p x i is e f = go (items_at text p) refl e
  where
    go : (xs : List ScanItem) → items_at text p ≡ xs → first_of xs ≡ Some x → part text x.start x.end ≡ encode_all i.chars
    go [] a b = cc
    go (y ∷ ys) a b =
        let g : y ≡ x = cc in
        let w = within text p.offset _ y ys a in
        let s : SpansOfItems text (y ∷ ys) (i ∷ is) = subst (λ (zs : List ScanItem). SpansOfItems text zs (i ∷ is)) a
        (subst (SpansOfItems text (items_at text p)) f (scan-spans_of_items text p.offset _)) in
        ap (λ (z : ScanItem). part text z.start z.end) (sym g) ∙ part_is text y.start y.end w.0 w.1 ∙ spans-first s

-- The bytes of spans that tile the text from a to b, one after the other, are the bytes from a to b.
pub join_raw_lem : (text : List ℕ) (a : ℕ) (xs : List ScanItem) (b : ℕ) → Tiles a xs b → b ≤ length text → join_raw text xs
    ≡ take (b - a) (drop a text)
join_raw_lem text a [] b e m = let z : 0 ≡ b - a = omega arith in ap (λ (n : ℕ). take n (drop a text)) z
join_raw_lem text a (x ∷ xs) b t m =
    let l = tiles_le xs t.2 in
    let n = x.end - a in
    let first : part text x.start x.end ≡ take n (drop a text) =
    part_is text x.start x.end (omega (arith, t.1)) (omega arith) ∙ ap (λ (k : ℕ). take (x.end - k) (drop k text)) t.0 in
    let r : a + n ≡ x.end = omega (arith, t.0, t.1) in
    let d : drop n (drop a text) ≡ drop x.end text = drop-drop n a text ∙ ap (λ (k : ℕ). drop k text) r in
    let s : n + (b - x.end) ≡ b - a = omega (arith, t.0, t.1) in
    ap (λ (ys : List ℕ). part text x.start x.end ++ ys) (join_raw_lem text x.end xs b t.2 m ∙ ap (take (b - x.end)) (sym d))
    ∙ ap (λ (ys : List ℕ). ys ++ take (b - x.end) (drop n (drop a text))) first
    ∙ sym (take-add n (b - x.end) (drop a text)) ∙ ap (λ (k : ℕ). take k (drop a text)) s
