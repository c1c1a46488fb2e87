-- The item at an offset: its bytes are the encoding of its characters and lie within the text, and the totals of its characters are
-- its counts.
use Rattle.std.specs.Prelude.{Some, None}
use mathlib.Core.Path.{◌≡◌, refl, ap, sym, ◌∙◌, subst}
use mathlib.Core.Logic.{◌≢◌, inl, inr}
use mathlib.Core.Bool.{Bool, true, false, cond, not, true≢false}
use mathlib.Core.List.{List, [], ◌∷◌, ◌++◌, Memᴰ}
use Prim.Native.Nat.{ℕ, ◌+◌, ◌-◌, ◌≤◌}
use native.Mathlib.Omega.{arith}
use lib.Dec.{eqb}
use lib.ListN.{drop, length, length-drop, take}
use types.Run.{OneOf, miss}
use denote.Enum.Declared.{tag_of}
use Rattle.utf8.specs.Rfc3629.{all_scalar, chars, encode_all}
use Rattle.utf8.proofs.Texts.{chars-all_scalar, chars-encode_all-alone, valid_up_to_le}
use Rattle.policy.specs.declared.Policy.{Policy}
use Rattle.scanner.specs.Grammar.{Derives, headed_by_emoji, only_links, passthrough, selector_and, run_of_selectors}
use Rattle.scanner.specs.Items.{Item, items, join}
use Rattle.positions.specs.declared.TextCount.{TextCount}
use Rattle.scanner.specs.Spans.{count_after, end_count, first_of, scan_at, scan_from, size, span_of, spans, width}
use Rattle.scanner.specs.Theorems.{Structured}
use Rattle.scanner.specs.declared.ScanItem.{ScanItem}
use Rattle.scanner.specs.declared.ScanKind.{ScanKind}
use Rattle.scanner.specs.declared.ScanKind.TheVariants.{Passthrough}
use Rattle.scanner.specs.contracts.ScanKind.{the_type as the-kind}
use Rattle.scanner.proofs.Bytes.{scalar-front, size-chars, size-width, take_chars_lem}
use Rattle.scanner.proofs.Reading.{item_derives}
use Rattle.scanner.proofs.Rescan.{size_append}
use Rattle.scanner.proofs.Tiling.{never_empty, tiling}
use Rattle.analysis.specs.Analysis.{count_cells, counts_of, is_finding, non_canonicality}
use Rattle.analysis.specs.CellView.{total_cells}
use Rattle.analysis.specs.Cells.{cells}
use Rattle.analysis.specs.Counts.{◌⊕◌, total, unsanctioned}
use Rattle.analysis.specs.ItemAt.{analysis_at, analysis_of}
use Rattle.analysis.specs.declared.ItemAnalysis.{ItemAnalysis}
use Rattle.analysis.specs.declared.ItemAnalysis.TheVariants.{Canonical, End, NonCanonical}
use Rattle.analysis.specs.declared.types.Finding.{Finding}
use Rattle.analysis.specs.declared.types.NonCanonicality.{NonCanonicality}
use Rattle.analysis.proofs.Counts.{empty-plus, plus-empty}
use Rattle.analysis.proofs.Items.{no_leading, passthrough_no_finding}
use Rattle.analysis.proofs.Lengths.{bytes_some}
use Rattle.analysis.proofs.Units.{split_S}

-- ---- the bytes of the first item from an offset on

module _ (text : List ℕ) (at : ℕ) (x : Item) (xs : List Item) (e : items (chars (drop at text)) ≡ x ∷ xs) where
  first_and_rest : chars (drop at text) ≡ x.chars ++ join xs
  first_and_rest = sym (tiling (chars (drop at text))) ∙ ap join e

  member : Memᴰ x (items (chars (drop at text)))
  member = subst (λ (l : List Item). Memᴰ x l) (sym e) (Memᴰ.head refl)

  -- These bytes are read as the item's characters.
  pub item-chars : chars (take (at + size width x.chars - at) (drop at text)) ≡ x.chars
  item-chars =
      let d : at + size width x.chars - at ≡ length (encode_all x.chars) = omega (arith, size-width x.chars) in
      ap (λ (n : ℕ). chars (take n (drop at text))) d ∙ ap chars (take_chars_lem (drop at text) x.chars (join xs) first_and_rest)
      ∙ chars-encode_all-alone x.chars
      (scalar-front x.chars (join xs) (subst (λ (l : List ℕ). all_scalar l ≡ true) first_and_rest (chars-all_scalar (drop at text))))

  -- These bytes end within the text.
  pub item-within : at + size width x.chars ≤ length text
  item-within =
      let s = drop at text in
      let a = ap (size width) first_and_rest in
      let b = size_append width x.chars (join xs) in
      omega (arith, a, b, size-chars s, valid_up_to_le s, length-drop at text, some x.chars (never_empty (chars s) x member))
    where
      some : (l : List ℕ) → l ≢ [] → 1 ≤ size width l
      some [] n = absurd (n refl)
      some (c ∷ l) n = let h = bytes_some (c ∷ l) in omega arith

  pub item_derived : Derives x.kind x.chars
  item_derived = item_derives (chars (drop at text)) x member

-- ---- the totals of an item's characters are its counts

module _ (p : Policy) where
  total_structured : {k : ScanKind} {t : List ℕ} → Structured k → Derives k t → total_cells p t ≡ count_cells p (cells t)
  unfolding total_cells
  total_structured {k} {t} o d = ap (λ s. unsanctioned (length s) ⊕ count_cells p (cells t)) (no_leading o d)
      ∙ empty-plus (count_cells p (cells t))

  pub total-item : {k : ScanKind} {t : List ℕ} → k ≢ Passthrough → Derives k t → total_cells p t ≡ counts_of p k t
  unfolding total_cells counts_of count_cells
  total-item {k} {t} n (only_links a l) = total_structured (inl refl) (only_links a l)
  total-item {k} {t} n (run_of_selectors e s) =
      let h = split_S (selector_and e s) in
      (λ i. unsanctioned (h.1 i) ⊕ count_cells p (h.0 i)) ∙ plus-empty (unsanctioned (length t))
  total-item {k} {t} n (headed_by_emoji v j l) = total_structured (inr refl) (headed_by_emoji v j l)
  total-item {k} {t} n (passthrough h s) = absurd (n refl)

-- The totals of an item's bytes are its counts.
pub item-totals : (p : Policy) (text : List ℕ) (at : ℕ) {x : Item} {xs : List Item} → items (chars (drop at text)) ≡ x ∷ xs
    → x.kind ≢ Passthrough
    → {end : ℕ} → end ≡ at + size width x.chars → total_cells p (chars (take (end - at) (drop at text))) ≡ non_canonicality p x
unfolding non_canonicality
item-totals p text at {x} {xs} e o f =
    ap (λ (m : ℕ). total_cells p (chars (take (m - at) (drop at text)))) f ∙ ap (total_cells p) (item-chars text at x xs e)
    ∙ total-item p o (item_derived text at x xs e)

-- ---- the answer of the cursor at an offset

pub record ItemAt (text : List ℕ) (at : ℕ) (before : TextCount) (i : ScanItem) : Type 0 where
  pub item : Item
  pub after : List Item
  pub items_are : items (chars (drop at text)) ≡ item ∷ after
  pub end_is : i.end ≡ at + size width item.chars
  pub kind_is : i.kind ≡ item.kind
  pub count_is : end_count i ≡ count_after before item

pub item_at_lem : (text : List ℕ) (at : ℕ) (before : TextCount) (i : ScanItem) → scan_at text at before ≡ Some i
    → ItemAt text at before i
unfolding scan_at scan_from first_of spans
item_at_lem text at before i e = go (items (chars (drop at text))) refl e
  where
    go : (l : List Item) → items (chars (drop at text)) ≡ l → first_of (spans at before l) ≡ Some i → ItemAt text at before i
    go [] f g = absurd (true≢false cc)
    go (x ∷ xs) f g =
        let e : span_of at before x ≡ i = cc in
        record { item = x; after = xs; items_are = f; end_is = cc; kind_is = cc; count_is = ap end_count (sym e) }

-- An arm for the kinds other than passthrough.
pub not_passthrough : (k : ScanKind) → OneOf (1 ∷ 2 ∷ 3 ∷ []) (tag_of the-kind k) → k ≢ Passthrough
not_passthrough k o e = miss (1 ∷ 2 ∷ 3 ∷ []) 0 tt (subst (λ (k : ScanKind). OneOf (1 ∷ 2 ∷ 3 ∷ []) (tag_of the-kind k)) e o)

module _ (p : Policy) (text : List ℕ) (at : ℕ) (before : TextCount) where
  pub analysis_end : scan_at text at before ≡ None → End ≡ analysis_at p text at before
  unfolding scan_at scan_from first_of spans analysis_at analysis_of
  analysis_end e = go (items (chars (drop at text))) e
    where
      go : (l : List Item) → first_of (spans at before l) ≡ None → End ≡ analysis_of p at before l
      go [] g = refl
      go (x ∷ xs) g = cc

  module _ {i : ScanItem} (h : ItemAt text at before i) where
    abbrev finding : ℕ → NonCanonicality → TextCount → Finding
    finding end n after = record {
      start = at;
      end = end;
      counts = n;
      char_start = before.chars;
      char_end = after.chars;
      unit_start = before.units;
      unit_end = after.units;
    }

    -- The answer for the item, by whether it is a finding.
    answer : Bool → ℕ → NonCanonicality → TextCount → ItemAnalysis
    answer b end n after = cond b (NonCanonical (finding end n after)) (Canonical end after.chars after.units)

    answer_is : (b : Bool) (n : NonCanonicality) → b ≡ is_finding p h.item → n ≡ non_canonicality p h.item
        → answer b i.end n (end_count i) ≡ analysis_at p text at before
    unfolding analysis_at analysis_of answer
    answer_is b n f g = (λ j. answer (f j) (h.end_is j) (g j) (h.count_is j)) ∙ ap (analysis_of p at before) (sym h.items_are)

    -- Passthrough is canonical.
    pub analysis-passthrough : i.kind ≡ Passthrough → Canonical i.end i.char_end i.unit_end ≡ analysis_at p text at before
    unfolding answer
    analysis-passthrough e = answer_is false (non_canonicality p h.item) (sym (passthrough_no_finding p h.item (sym h.kind_is ∙ e)))
        refl

    -- Any other item is analysed by the totals of its bytes.
    module _ (o : i.kind ≢ Passthrough) (n : NonCanonicality) (e : n ≡ total_cells p (chars (take (i.end - at) (drop at text)))) where
      counts_are : n ≡ non_canonicality p h.item
      counts_are = e ∙ item-totals p text at h.items_are (λ f. o (h.kind_is ∙ f)) h.end_is

      pub analysis-canonical : eqb (total n) 0 ≡ true → Canonical i.end i.char_end i.unit_end ≡ analysis_at p text at before
      unfolding answer
      analysis-canonical f = answer_is false n (sym (ap not f) ∙ ap (λ (m : NonCanonicality). not (eqb (total m) 0)) counts_are) counts_are

      pub analysis-finding : eqb (total n) 0 ≡ false → NonCanonical (finding i.end n (end_count i)) ≡ analysis_at p text at before
      unfolding answer
      analysis-finding f = answer_is true n (sym (ap not f) ∙ ap (λ (m : NonCanonicality). not (eqb (total m) 0)) counts_are) counts_are
