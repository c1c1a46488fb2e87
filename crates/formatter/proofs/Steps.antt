-- A walk over the items of a text: what the answer of the analysis or of the cursor at an offset says of the findings and items from there.
use Rattle.scanner.specs.declared.ScanItem.{ScanItem}
use Rattle.std.specs.Prelude.{Some, None, Option}
use mathlib.Core.Path.{◌≡◌, refl, ap, ap₂, sym, ◌∙◌, subst}
use mathlib.Core.Bool.{Bool, true, false, cond}
use mathlib.Core.List.{List, [], ◌∷◌, map}
use Prim.Native.Nat.{ℕ, ◌+◌, ◌≤◌, ◌<◌}
use lib.ListN.{drop, length}
use Rattle.utf8.specs.Rfc3629.{chars}
use Rattle.policy.specs.declared.Policy.{Policy}
use Rattle.positions.specs.Positions.{AtPosition}
use Rattle.positions.specs.declared.TextCount.{TextCount}
use Rattle.scanner.specs.Items.{Item, items, join}
use Rattle.scanner.specs.Spans.{Found, count_after, end_count, first_of, found, scan_at, scan_from, size, span_of, spans, width}
use Rattle.analysis.specs.Analysis.{is_finding, non_canonicality}
use Rattle.analysis.specs.ItemAt.{analysis_at, analysis_of, canonical_of, finding_of}
use Rattle.analysis.specs.declared.ItemAnalysis.{ItemAnalysis}
use Rattle.analysis.specs.declared.ItemAnalysis.TheVariants.{Canonical, End, NonCanonical}
use Rattle.analysis.specs.declared.types.Finding.{Finding}
use Rattle.analysis.specs.declared.types.NonCanonicality.{NonCanonicality}
use Rattle.analysis.specs.Findings.{findings_from}
use Rattle.formatter.specs.Findings.{finding_row}
use Rattle.scanner.proofs.ItemAt.{ItemAt, item_at_lem}
use Rattle.scanner.proofs.Positions.{chars-positioned}

-- ---- the analysis at an offset

-- The end of an item lies after its start, and inside the text.
pub record Ahead (text : List ℕ) (at end : ℕ) : Type 0 where
  pub some : at < end
  pub room : end ≤ length text

-- A row by its bytes, its counts and the positions of its start and its end.
abbrev pub row_by : ℕ → ℕ → NonCanonicality → TextCount → TextCount → Finding
row_by start end n a b = record {
  start = start;
  end = end;
  counts = n;
  char_start = a.chars;
  char_end = b.chars;
  unit_start = a.units;
  unit_end = b.units;
}

-- The rows of the findings from an offset on.
abbrev pub rows_from : Policy → List ℕ → ℕ → List Finding
rows_from p text at = map (finding_row p text) (findings_from p text at)

-- A finding in a list of findings, and what was made of it: its bytes and its counts; and if `before` is the position of the offset, the
-- whole row, and the position of its end.
pub record FoundAt (p : Policy) (text : List ℕ) (at : ℕ) (before : TextCount) (f : Finding) : Type 0 where
  pub item : Item
  pub here : findings_from p text at ≡ record { start = at; item = item } ∷ findings_from p text f.end
  pub is : f ≡ finding_of p at before item
  pub row : AtPosition text at before → f ≡ finding_row p text (record { start = at; item = item })
  pub on : AtPosition text at before → AtPosition text f.end (record { chars = f.char_end; units = f.unit_end })

module _ (p : Policy) (text : List ℕ) (at : ℕ) (before : TextCount) where
  -- What an answer of the analysis says of the findings from the offset on.
  abbrev pub Says : ItemAnalysis → Type 0
  Says End = findings_from p text at ≡ []
  Says (Canonical end m n) =
      Ahead text at end × (findings_from p text at ≡ findings_from p text end)
      × (AtPosition text at before → AtPosition text end (record { chars = m; units = n }))
  Says (NonCanonical f) = Ahead text at f.end × FoundAt p text at before f

  says_of : (xs : List Item) → items (chars (drop at text)) ≡ xs → Says (analysis_of p at before xs)
  unfolding analysis_of found finding_row
  says_of [] e = ap (found (is_finding p) width at) e
  says_of (x ∷ xs) e = go (is_finding p x) refl
    where
      h : ItemAt text at x xs
      h = item_at_lem text at e

      end : ℕ
      end = at + size width x.chars

      l : Ahead text at end
      l = record { some = h.some; room = h.room }

      F : List Found
      F = found (is_finding p) width end xs

      b : F ≡ findings_from p text end
      b = ap (found (is_finding p) width end) (sym h.after)

      here : findings_from p text at ≡ cond (is_finding p x) (record { start = at; item = x } ∷ F) F
      here = ap (found (is_finding p) width at) e

      on : AtPosition text at before → AtPosition text end (count_after before x)
      on = chars-positioned text at x.chars (join xs) h.bytes

      go : (f : Bool) → is_finding p x ≡ f → Says (cond f (NonCanonical (finding_of p at before x)) (canonical_of p at before x))
      go true e = (
        l,
        record {
          item = x;
          here =
              here ∙ ap (λ (f : Bool). cond f (record { start = at; item = x } ∷ F) F) e
              ∙ ap (λ (k : List Found). record { start = at; item = x } ∷ k) b;
          is = refl;
          row = λ a. ap₂ (row_by at end (non_canonicality p x)) a.position (on a).position;
          on = on;
        },
      )
      go false e = (l, here ∙ ap (λ (f : Bool). cond f (record { start = at; item = x } ∷ F) F) e ∙ b, on)

  pub analysis_says : {a : ItemAnalysis} → a ≡ analysis_at p text at before → Says a
  unfolding analysis_at
  analysis_says e = subst Says (sym e) (says_of (items (chars (drop at text))) refl)

-- Where no character begins, no finding starts.
pub none_found : (p : Policy) (text : List ℕ) (start : ℕ) → chars (drop start text) ≡ [] → findings_from p text start ≡ []
unfolding items found
none_found p text start e = ap (λ (t : List ℕ). found (is_finding p) width start (items t)) e

-- ---- the items from an offset on

module _ (text : List ℕ) (at : ℕ) (before : TextCount) where
  -- What an answer of the cursor says of the items from the offset on.
  abbrev pub Goes : Option ScanItem → Type 0
  Goes None = scan_from text at before ≡ []
  Goes (Some x) = Ahead text at x.end × (scan_from text at before ≡ x ∷ scan_from text x.end (end_count x))

  goes_of : (xs : List Item) → items (chars (drop at text)) ≡ xs → Goes (first_of (spans at before xs))
  unfolding scan_from spans first_of
  goes_of [] e = ap (spans at before) e
  goes_of (x ∷ xs) e =
      let h = item_at_lem text at e in (
        record { some = h.some; room = h.room },
        ap (spans at before) e
            ∙ ap (λ (l : List Item). span_of at before x ∷ spans (at + size width x.chars) (count_after before x) l) (sym h.after),
      )

  pub cursor_goes : {s : Option ScanItem} → s ≡ scan_at text at before → Goes s
  unfolding scan_at scan_from
  cursor_goes e = subst Goes (sym e) (goes_of (items (chars (drop at text))) refl)
