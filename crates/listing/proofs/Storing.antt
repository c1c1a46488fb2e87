-- Storing findings one by one: the findings after the first, the table after k turns, and the outcome `list` by the tests.
use Rattle.std.specs.Prelude.{Ok, Err, Result, Option, Some, None}
use mathlib.Core.Path.{◌≡◌, refl, ap, ap₂, sym, ◌∙◌, subst}
use mathlib.Core.Bool.{Bool, true, false, cond}
use mathlib.Core.List.{List, [], ◌∷◌, ◌++◌, map, cons-ne-nil, head-eq_of_cons-eq, tail-eq_of_cons-eq}
use Prim.Native.Nat.{ℕ, zero, suc, ◌+◌, ◌≤◌, ◌<◌}
use native.Mathlib.Nat.{not-suc-le-zero}
use native.Mathlib.Numerals.{add-one}
use native.Mathlib.Omega.{arith}
use lib.Dec.{leb}
use lib.ListN.{drop, get_or, length, length-drop, set, take}
use lib.Seq.{drop-cons, take-length}
use borrow.Author.Tests.{le-leb, lt-leb}
use Rattle.base.specs.Refusals.{After, unwritten, or_else, written}
use Rattle.base.specs.declared.Refusal.{Refusal}
use Rattle.base.specs.declared.Refusal.TheVariants.{TableTooShort}
use Rattle.utf8.specs.Rfc3629.{chars}
use Rattle.positions.specs.Positions.{AtPosition}
use Rattle.positions.specs.declared.TextCount.{TextCount}
use Rattle.policy.specs.declared.Policy.{Policy}
use Rattle.scanner.specs.Items.{Item, items}
use Rattle.scanner.specs.Spans.{count_after, size, width}
use Rattle.scanner.proofs.ItemAt.{item_at_lem}
use Rattle.analysis.specs.Analysis.{is_finding}
use Rattle.analysis.specs.ItemAt.{analysis_at, analysis_of, canonical_of, finding_of}
use Rattle.analysis.specs.declared.ItemAnalysis.TheVariants.{NonCanonical}
use Rattle.analysis.specs.declared.types.Finding.{Finding}
use Rattle.formatter.specs.Findings.{finding_row, listed}
use Rattle.formatter.specs.Intake.{intake_refusal}
use Rattle.formatter.specs.List.{list}
use Rattle.formatter.proofs.Steps.{FoundAt, Says, analysis_says, rows_from}
use Rattle.listing.specs.Table.{first_finding, first_of}

-- ---- the first finding from an offset on

-- The end of a finding in characters and units.
abbrev pub end_of : Finding → TextCount
end_of f = record { chars = f.char_end; units = f.unit_end }

module _ (p : Policy) (text : List ℕ) where
  pub first-none : (start : ℕ) → rows_from p text start ≡ [] → None ≡ first_finding p text start
  unfolding first_finding
  first-none start e = sym (ap first_of e)

  pub first_some : (start : ℕ) {f : Finding} {fs : List Finding} → rows_from p text start ≡ f ∷ fs → Some f ≡ first_finding p text start
  unfolding first_finding
  first_some start e = sym (ap first_of e)

  of_none : (l : List Finding) → None ≡ first_of l → l ≡ []
  of_none [] e = refl
  of_none (f ∷ fs) e = let z : ◌≡◌ {A = ℕ} 0 1 = cc in absurd (omega arith)

  of_some : (l : List Finding) {f : Finding} → Some f ≡ first_of l → l ≡ f ∷ drop 1 l
  of_some [] e = let z : ◌≡◌ {A = ℕ} 0 1 = cc in absurd (omega arith)
  of_some (g ∷ gs) {f} e = let z : f ≡ g = cc in ap (λ (x : Finding). x ∷ gs) (sym z)

  -- With no first finding, there is none.
  pub none_left : (start : ℕ) → None ≡ first_finding p text start → rows_from p text start ≡ []
  unfolding first_finding
  none_left start e = of_none (rows_from p text start) e

  pub some_left : (start : ℕ) {f : Finding} → Some f ≡ first_finding p text start
      → rows_from p text start ≡ f ∷ drop 1 (rows_from p text start)
  unfolding first_finding
  some_left start e = of_some (rows_from p text start) e

  -- A finding at a position is the first row from there on.
  pub row_here : {at : ℕ} {before : TextCount} {f : Finding} → FoundAt p text at before f → AtPosition text at before
      → rows_from p text at ≡ f ∷ rows_from p text f.end
  row_here {at} {before} {f} h a =
      ap (map (finding_row p text)) h.here ∙ ap (λ (g : Finding). g ∷ rows_from p text f.end) (sym (h.row a))

  -- The findings after the first are those from its end on, and its characters and units end at the position there.
  after : (xs : List Item) (at : ℕ) (before : TextCount) → AtPosition text at before → items (chars (drop at text)) ≡ xs
      → (f : Finding) (fs : List Finding) → rows_from p text at ≡ f ∷ fs
      → (rows_from p text f.end ≡ fs) × AtPosition text f.end (end_of f)
  unfolding analysis_at analysis_of
  after [] at before a e f fs q =
      let None = ap (map (finding_row p text)) (analysis_says p text at before (ap (analysis_of p at before) (sym e))) in
      absurd (cons-ne-nil f fs (sym q ∙ None))
  after (x ∷ xs) at before a e f fs q = go (is_finding p x) (analysis_says p text at before (ap (analysis_of p at before) (sym e)))
      (λ on. after xs (at + size width x.chars) (count_after before x) on (item_at_lem text at e).after f fs)
    where
      end : ℕ
      end = at + size width x.chars

      Ends : Type 0
      Ends = (rows_from p text f.end ≡ fs) × AtPosition text f.end (end_of f)

      go : (b : Bool) → Says p text at before (cond b (NonCanonical (finding_of p at before x)) (canonical_of p at before x))
          → (AtPosition text end (count_after before x) → rows_from p text end ≡ f ∷ fs → Ends) → Ends
      go true s ih =
          let g = finding_of p at before x in
          let r = sym (row_here s.1 a) ∙ q in
          let i : g ≡ f = head-eq_of_cons-eq r in (
            ap (λ (h : Finding). rows_from p text h.end) (sym i) ∙ tail-eq_of_cons-eq r,
            subst (λ (h : Finding). AtPosition text h.end (end_of h)) i (s.1.on a),
          )
      go false s ih = ih (s.2 a) (sym (ap (map (finding_row p text)) s.1) ∙ q)

-- ---- the table

-- A table with the first k rows at its front.
abbrev pub stored : List Finding → List Finding → ℕ → List Finding
stored rows table k = take k rows ++ drop k table

stored_more : (rows table : List Finding) (k : ℕ) (d : Finding) → k < length rows → k < length table
    → set (stored rows table k) k (get_or rows k d) ≡ stored rows table (suc k)
stored_more [] ys k d held room = absurd (not-suc-le-zero held)
stored_more (x ∷ xs) [] k d held room = absurd (not-suc-le-zero room)
stored_more (x ∷ xs) (y ∷ ys) zero d held room = refl
stored_more (x ∷ xs) (y ∷ ys) (suc k) d held room = ap (λ (l : List Finding). x ∷ l) (stored_more xs ys k d (omega arith) (omega arith))

held : (rows : List Finding) (k : ℕ) {f : Finding} {fs : List Finding} → drop k rows ≡ f ∷ fs → k < length rows
held rows k {f} {fs} e = omega (arith, length-drop k rows, ap length e)

-- A turn stores the next finding, and the next turn starts at its end.
pub turn : (p : Policy) (text : List ℕ) (rows table : List Finding) (k at : ℕ) (before : TextCount) (r : Finding)
    → AtPosition text at before → rows_from p text at ≡ drop k rows → length rows ≤ length table → Some r ≡ first_finding p text at
    → (k < length rows)
    × (set (stored rows table k) k r ≡ stored rows table (k + 1)) × (rows_from p text r.end ≡ drop (k + 1) rows)
    × AtPosition text r.end (end_of r)
turn p text rows table k at before r a here room e =
    let first = some_left p text at e in
    let h : k < length rows = held rows k (sym here ∙ first) in
    let next : rows_from p text at ≡ get_or rows k r ∷ drop (suc k) rows = here ∙ drop-cons rows k r h in
    let same : r ≡ get_or rows k r = head-eq_of_cons-eq (sym first ∙ next) in
    let on = after p text (items (chars (drop at text))) at before a refl (get_or rows k r) (drop (suc k) rows) next in (
      h,
      ap (set (stored rows table k) k) same ∙ stored_more rows table k r h (omega (arith, h)) ∙ ap (stored rows table) (sym (add-one k)),
      ap (λ (f : Finding). rows_from p text f.end) same ∙ on.0 ∙ ap (λ (n : ℕ). drop n rows) (sym (add-one k)),
      subst (λ (f : Finding). AtPosition text f.end (end_of f)) (sym same) on.1,
    )

-- With no finding left, all have been stored.
pub all_stored : (p : Policy) (text : List ℕ) (rows : List Finding) (k at : ℕ) → rows_from p text at ≡ drop k rows → k ≤ length rows
    → None ≡ first_finding p text at → k ≡ length rows
all_stored p text rows k at here l e = omega (arith, length-drop k rows, ap length (sym here ∙ none_left p text at e))

-- ---- the outcome, by the tests

module _ (text policy : List ℕ) (table : List Finding) where
  abbrev rows : List Finding
  rows = listed text policy

  abbrev list_by : Option Refusal → Bool → After (Result ℕ Refusal) Finding
  list_by o fits = or_else o (λ (r : Refusal). unwritten (Err r) table)
      (cond fits (written (Ok (length rows)) rows table) (unwritten (Err (TableTooShort (length rows))) table))

  pub list_refused : (r : Refusal) → intake_refusal text policy ≡ Some r
      → record { answer = Err r; buffer = table } ≡ list text policy table
  unfolding list
  list_refused r e = sym (ap (λ (o : Option Refusal). list_by o (leb (length rows) (length table))) e)

  module _ (passed : intake_refusal text policy ≡ None) {n : ℕ} (counted : n ≡ length rows) where
    pub list-short : length table < n → record { answer = Err (TableTooShort n); buffer = table } ≡ list text policy table
    unfolding list
    list-short l =
        ap (λ (k : ℕ). record { answer = Err (TableTooShort k); buffer = table }) counted
        ∙ sym (ap₂ list_by passed (lt-leb (length rows) (length table) (omega (arith, counted))))

    pub list-all : n ≤ length table → record { answer = Ok n; buffer = stored rows table n } ≡ list text policy table
    unfolding list
    list-all l =
        ap (λ (k : ℕ). record { answer = Ok k; buffer = stored rows table k }) counted
        ∙ ap (λ (l : List Finding). record { answer = Ok (length rows); buffer = l ++ drop (length rows) table }) (take-length rows)
        ∙ sym (ap₂ list_by passed (le-leb (length rows) (length table) (omega (arith, counted))))
