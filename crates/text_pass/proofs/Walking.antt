-- The walk through items of links and units, cell by cell: the invariant of the loop, and what each turn does to it.
use Rattle.std.specs.Prelude.{Some, None, Option}
use mathlib.Core.Path.{◌≡◌, refl, ap, ap₂, sym, ◌∙◌, subst}
use mathlib.Core.Logic.{inl, inr, ⊎_elim}
use mathlib.Core.Bool.{Bool, true, false, ◌&&◌, ◌||◌, and-false, cond, not, true≢false}
use mathlib.Core.List.{List, [], ◌∷◌, ◌++◌}
use Prim.Native.Nat.{ℕ, zero, suc, ◌+◌, ◌*◌, ◌-◌, ◌/◌, ◌%◌, ◌≤◌, ◌<◌}
use native.Mathlib.Omega.{arith}
use types.Run.{OneOf, miss}
use denote.Enum.Declared.{tag_of}
use lib.Dec.{eqb, leb, ltb}
use lib.ListN.{drop, length}
use borrow.Author.Tests.{eq-eqb, eqb-true, le-leb, lt-leb, lt-ltb, ltb-false, ltb-true, ne_eqb, not-false}
use Rattle.base.specs.Sums.{most}
use Rattle.base.proofs.Tests.{and_both, both_true, le_or_lt}
use Rattle.utf8.specs.Rfc3629.{chars, packed, read_char}
use Rattle.utf8.proofs.Packed.{packed_step, packed_stop}
use Rattle.utf8.proofs.Places.{Step}
use Rattle.emoji.specs.Presentation.{is_selector}
use Rattle.emoji.specs.Unicode.{variation_sequence_index}
use Rattle.emoji.specs.Theorems.{NoIndexNoEntry}
use Rattle.emoji.specs.declared.presentation.Presentation.{Presentation}
use Rattle.emoji.proofs.Claims.{no_index_no_entry}
use Rattle.policy.specs.declared.Policy.{Policy}
use Rattle.scanner.specs.Classes.{class_of}
use Rattle.scanner.specs.Items.{Item, start_state, split_from, items, kind_of, next_of, transition}
use Rattle.scanner.specs.Runs.{after_selectors, selectors_at}
use Rattle.scanner.specs.Spans.{size, width}
use Rattle.scanner.specs.Theorems.{Structured}
use Rattle.scanner.specs.declared.char_class.Class.{Class}
use Rattle.scanner.specs.declared.char_class.Class.TheVariants.{Other as other, Selector as selector}
use Rattle.scanner.specs.declared.state.State.{State}
use Rattle.scanner.specs.declared.state.State.TheVariants.{
  Plain as plain,
  Selectors as selectors,
  Links as links,
  OneRi as one_ri,
  Unit as unit,
  Joined as joined,
  LeftOver as left_over,
}
use Rattle.scanner.proofs.Classes.{class_selector, selector_class}
use Rattle.scanner.proofs.Bytes.{width_some}
use Rattle.scanner.proofs.ItemRuns.{item_selectors, walk_passes}
use Rattle.scanner.proofs.States.{inner, inner_selector, inner-transition, kind_emoji, kind-links, kind_selector, next-on, next_stop}
use Rattle.scanner.proofs.Rescan.{size_append}
use Rattle.scanner.proofs.Runs.{Stops, at_char, at_end, after-stops, run-after, run-passes}
use Rattle.scanner.proofs.Tiling.{split_from-none, split_from-some}
use Rattle.scanner.proofs.Walk.{inner_no_selector, split_from_walk}
use Rattle.scanner.specs.contracts.state.State.{the_type as the-state}
use Rattle.analysis.specs.Analysis.{chosen, following}
use Rattle.analysis.specs.CellView.{class_in_front, total_cells}
use Rattle.analysis.specs.Cells.{cells, leading}
use Rattle.analysis.specs.Counts.{◌⊕◌, capped_sum, empty, total, unsanctioned}
use Rattle.analysis.specs.Rules.{first_asked, outcome, rule1, run_with, selector_number}
use Rattle.analysis.specs.declared.singleton.Outcome.{Outcome}
use Rattle.analysis.specs.declared.types.NonCanonicality.{NonCanonicality}
use Rattle.analysis.proofs.CellsAt.{after_at, selectors_end, selectors_room, split_at}
use Rattle.analysis.proofs.Counts.{empty-plus, plus_assoc, plus-empty, total-empty}
use Rattle.analysis.proofs.Measuring.{few, total-char, total-leading}
use Rattle.analysis.proofs.NumberRules.{by-numbers}
use Rattle.analysis.proofs.Rules.{outcome_no_entry}
use Rattle.analysis.proofs.Sums.{whole_sum}
use Rattle.text_pass.specs.Changes.{SameRules, outcome_from}
use Rattle.text_pass.specs.Findings.{Counted, FindsFrom, FindingsBetween, ReadsCell}
use Rattle.text_pass.specs.declared.findings.CellEnd.{CellEnd}
use Rattle.text_pass.proofs.Bases.{no_change}
use Rattle.text_pass.proofs.Kept.{class_in_front_lem, follows}
use Rattle.text_pass.proofs.Passing.{counted-item, over_finding, over_on, over_passes, uncounted_item, step-width}
use Rattle.text_pass.proofs.PlainText.{ascii_other}
use Rattle.text_pass.proofs.RuleClasses.{same_outcome}

-- ---- whether the rules count something for a cell

pub entry_changes : (p : Policy) (c : ℕ) (k : Class) (s : List Presentation) (first a : Option Presentation) (bytes : ℕ) (m : Bool)
    → first ≡ first_asked s → bytes ≡ 3 * length s → ((n : ℕ) → run_with a 1 ≡ chosen (outcome p c k (run_with first n)).slot [])
    → m ≡ not (eqb (selector_number first) (selector_number a) && leb bytes 3) → m ≡ not (eqb (total (outcome p c k s).counts) 0)
entry_changes p c k s first a bytes m f b h q =
    q ∙ ap₂ (λ (x : Option Presentation) (n : ℕ). not (eqb (selector_number x) (selector_number a) && leb n 3)) f b
    ∙ ap not (no_change p c k s a (h (length s)
    ∙ ap (λ (x : Outcome). chosen x.slot [])
    (ap (λ (x : Option Presentation). outcome p c k (run_with x (length s))) f ∙ sym (by-numbers p c k s))))

pub no_entry_changes : (p : Policy) (c : ℕ) (k : Class) (s : List Presentation) (bytes : ℕ) → variation_sequence_index c ≡ None → bytes
    ≡ 3 * length s
    → not (eqb bytes 0) ≡ not (eqb (total (outcome p c k s).counts) 0)
unfolding NoIndexNoEntry rule1
no_entry_changes p c k s bytes e b =
    let o = ap (λ (x : Outcome). total x.counts) (outcome_no_entry p c k s ((no_index_no_entry c).0 e)) in
    ap not (⊎_elim
    (λ h. ne_eqb bytes 0 (λ z. omega arith) ∙ sym (ne_eqb (total (outcome p c k s).counts) 0 (λ z. omega (arith, o))))
    (λ h. eq-eqb bytes 0 (omega arith) ∙ sym (eq-eqb (total (outcome p c k s).counts) 0 (omega (arith, o))))
    (le_or_lt 1 (length s)))

-- What the code reads of a cell and of the character after it.
pub read_end : (p : Policy) (text : List ℕ) (base at : ℕ) (first : Option Presentation) (end n : ℕ) (k : Class) (i : Option ℕ)
    (m : Bool)
    → first ≡ first_asked (leading (chars (drop at text))) → end ≡ at + 3 * length (leading (chars (drop at text))) → n
    ≡ packed (read_char (drop end text))
    → k ≡ class_of (n / 8) → i ≡ variation_sequence_index (n / 8)
    → ((s : List Presentation) → first ≡ first_asked s → end - at ≡ 3 * length s → m ≡ not (eqb (total (outcome p base k s).counts) 0))
    → ReadsCell p text base at (record { end = end; first = first; changes = m; packed = n; class = k; index = i })
read_end p text base at first end n k i m f e d c j h =
    let t = chars (drop at text) in
    let r : SameRules k (class_in_front (chars (drop end text))) = class_in_front_lem text end n k d
    (subst (SameRules k) c (record { modifier = refl; tags = refl; keycap = refl })) in
    let o = same_outcome p base (leading t) (subst (SameRules k) (follows p text base at end e) r) in
    record {
      end_is = e;
      first_is = f;
      outcome_is = o;
      changes_is = h (leading t) f (omega arith) ∙ ap (λ (x : Outcome). not (eqb (total x.counts) 0)) o;
      packed_is = d;
      class_is = c;
      index_is = j;
    }

-- The value of `changed` after the branch that sets it: it was true, or the rules count something for this cell.
pub now_changed : (x : Bool) {b y : Bool} → y ≡ true → b ≡ true → b ≡ x || y
now_changed true e f = f
now_changed false e f = f ∙ sym e

pub as_changed : (x : Bool) {b y : Bool} → y ≡ false → b ≡ x → b ≡ x || y
as_changed true e f = f
as_changed false e f = f ∙ sym e

-- In the arm for every state but that of passthrough, the state is not that of passthrough.
pub not_plain : (q : State) → OneOf (1 ∷ 2 ∷ 3 ∷ 4 ∷ 5 ∷ 6 ∷ []) (tag_of the-state q) → q ≡ plain → ⊥
not_plain q o e = miss (1 ∷ 2 ∷ 3 ∷ 4 ∷ 5 ∷ 6 ∷ []) 0 tt
    (subst (λ (r : State). OneOf (1 ∷ 2 ∷ 3 ∷ 4 ∷ 5 ∷ 6 ∷ []) (tag_of the-state r)) e o)

-- ---- the invariant of the loop: the current item, and what is counted in it so far

-- The variable `counts` has the sum of the counts if the item does not start before the limit; else it is empty.
abbrev pub Keeps : ℕ → ℕ → NonCanonicality → NonCanonicality → Type 0
Keeps limit start sum counts = (limit ≤ start → counts ≡ sum) × (start < limit → counts ≡ empty)

pub record Walking (p : Policy) (text : List ℕ) (limit from start base : ℕ) (index : Option ℕ) (at : ℕ) (state : State)
    (changed : Bool) (n : ℕ) (counts : NonCanonicality) : Type 0 where
  pub passed : FindingsBetween p text limit from start n
  pub entry : variation_sequence_index base ≡ index
  pub inside : inner state ≡ true
  -- The last character of the item so far that is no selector: its offset and its number of bytes.
  pub pos : ℕ
  pub wide : ℕ
  pub reads : Step text pos base wide
  pub at_is : at ≡ pos + wide
  pub clean : is_selector base ≡ false
  pub on : start ≤ pos
  -- The item, and where it ends, seen from its start and from `at`.
  pub item : Item
  pub after : List Item
  pub items_are : items (chars (drop start text)) ≡ item ∷ after
  pub end_same : start + size width item.chars ≡ at + size width (split_from state (chars (drop at text))).0
  pub sum : NonCanonicality
  pub counted : total_cells p (chars (drop start text)) ≡ sum ⊕ total_cells p (chars (drop pos text))
  -- The sum of the counts is at most the number of bytes passed.
  pub few_counts : total sum + start ≤ pos
  pub changed_is : changed ≡ not (eqb (total sum) 0)
  pub kept : Keeps limit start sum counts

pub walking_begin : (p : Policy) (text : List ℕ) (limit from : ℕ) {start v w n : ℕ} {counts : NonCanonicality}
    (index : Option ℕ)
    → FindingsBetween p text limit from start n → counts ≡ empty → Step text start v w
    → variation_sequence_index v ≡ index → inner (start_state (class_of v)) ≡ true
    → Walking p text limit from start v index (start + w) (start_state (class_of v)) false n counts
unfolding items
walking_begin p text limit from {start} {v} {w} index a z h e i = record {
  passed = a;
  entry = e;
  inside = i;
  pos = start;
  wide = w;
  reads = h;
  at_is = refl;
  clean = inner_no_selector v i;
  on = omega arith;
  item = record {
    kind = kind_of (start_state (class_of v));
    chars =
        v ∷ (split_from (start_state (class_of v)) (chars (drop (start + w) text))).0;
  };
  after = (split_from (start_state (class_of v)) (chars (drop (start + w) text))).1;
  items_are = ap items h.chars_on;
  end_same = omega (arith, step-width h);
  sum = empty;
  counted = sym (empty-plus (total_cells p (chars (drop start text))));
  few_counts = omega arith;
  changed_is = refl;
  kept = (λ _. z, λ _. z);
}

-- In a state of links or units, a character of the class other ends the item.
inner-other : (q : State) → inner q ≡ true → transition q other ≡ None
unfolding transition
inner-other plain e = absurd (true≢false (sym e))
inner-other selectors e = absurd (true≢false (sym e))
inner-other links e = refl
inner-other one_ri e = refl
inner-other unit e = refl
inner-other joined e = refl
inner-other left_over e = refl

pub structured_inner : (k : Class) → Structured (kind_of (start_state k)) → inner (start_state k) ≡ true
structured_inner k h = ⊎_elim (kind-links k) (kind_emoji k) h

begins_selectors : (k : Class) → start_state k ≡ selectors → k ≡ selector
unfolding kind_of
begins_selectors k e = kind_selector k (ap kind_of e)

-- A character that starts neither passthrough nor a run of selectors starts links or a unit.
begins_inner : (k : Class) → (k ≡ selector → ⊥) → (start_state k ≡ plain → ⊥) → inner (start_state k) ≡ true
begins_inner k s q = go (start_state k) refl
  where
    go : (b : State) → start_state k ≡ b → inner b ≡ true
    go plain e = absurd (q e)
    go selectors e = absurd (s (begins_selectors k e))
    go links e = refl
    go one_ri e = refl
    go unit e = refl
    go joined e = refl
    go left_over e = refl

module _ {p : Policy} {text : List ℕ} {limit from start base : ℕ} {index : Option ℕ} {at : ℕ} {state : State}
    {changed : Bool} {n : ℕ} {counts : NonCanonicality}
    (l : Walking p text limit from start base index at state changed n counts) {cell : CellEnd} (c : ReadsCell p text base at cell) where
  abbrev T : List ℕ
  T = chars (drop at text)

  abbrev U : List ℕ
  U = chars (drop cell.end text)

  abbrev gain : NonCanonicality
  gain = (outcome_from p text base at).counts

  abbrev Sum : NonCanonicality
  Sum = l.sum ⊕ gain

  text_after_lem : U ≡ after_selectors T
  text_after_lem = ap (λ (n : ℕ). chars (drop n text)) c.end_is ∙ after_at text at

  -- The selectors of the cell belong to the item.
  split_from_selectors : (split_from state T).0 ≡ selectors_at T ++ (split_from state U).0
  split_from_selectors =
      let w = walk_passes state is_selector (λ x e. ap (transition state) (class_selector x e) ∙ inner_selector state l.inside)
      (run-passes is_selector T) in
      ap (λ (t : List ℕ). (split_from state t).0) (sym (run-after is_selector T))
      ∙ ap (λ (a : List ℕ × List Item). a.0) (split_from_walk w (after_selectors T))
      ∙ ap (λ (t : List ℕ). selectors_at T ++ (split_from state t).0) (sym text_after_lem)

  end_on : start + size width l.item.chars ≡ cell.end + size width (split_from state U).0
  end_on = omega (
    arith,
    l.end_same,
    ap (size width) split_from_selectors,
    size_append width (selectors_at T) (split_from state U).0,
    selectors_end text at,
    c.end_is,
  )

  -- The sum of the counts, with this cell.
  total-on : total_cells p (chars (drop start text)) ≡ Sum ⊕ total_cells p U
  total-on =
      l.counted
      ∙ ap (λ (t : List ℕ). l.sum ⊕ total_cells p t) (l.reads.chars_on ∙ ap (λ (n : ℕ). base ∷ chars (drop n text)) (sym l.at_is))
      ∙ ap (λ (m : NonCanonicality). l.sum ⊕ m) (total-char p base T U l.clean (split_at text at c.end_is))
      ∙ sym (plus_assoc l.sum gain (total_cells p U))

  few_on : total Sum + start ≤ cell.end
  few_on = omega (arith, l.few_counts, few p base (following (cells T)) (leading T), c.end_is, l.at_is, l.reads.some)

  pub room : cell.end ≤ length text
  room = omega (arith, c.end_is, l.at_is, selectors_room text at (omega (arith, l.at_is, l.reads.room)))

  pub further : start < cell.end
  further = omega (arith, c.end_is, l.at_is, l.on, l.reads.some)

  -- The variable `counts` after `add_cell`.
  pub keeps_on : length text ≤ most → {q : Bool} {k : NonCanonicality} → q ≡ cell.changes && leb limit start
      → k ≡ cond q (capped_sum counts (outcome p base cell.class (run_with cell.first ((cell.end - at) / 3))).counts) counts
      → Keeps limit start Sum k
  keeps_on room_most {q} {k} e z = (after-limit cell.changes refl, λ h. z ∙ simp (e, lt-leb limit start h, and-false) (l.kept.1 h))
    where
      cell-counts : (outcome p base cell.class (run_with cell.first ((cell.end - at) / 3))).counts ≡ gain
      cell-counts =
          let i : (cell.end - at) / 3 ≡ length (leading T) = omega (arith, c.end_is) in
          ap (λ (o : Outcome). o.counts)
          (ap₂ (λ (f : Option Presentation) (m : ℕ). outcome p base cell.class (run_with f m)) c.first_is i
          ∙ sym (by-numbers p base cell.class (leading T)) ∙ c.outcome_is)

      after-limit : (x : Bool) → cell.changes ≡ x → limit ≤ start → k ≡ Sum
      after-limit true t h =
          let s = whole_sum l.sum gain (omega (arith, few_on, room, room_most)) in
          z ∙ simp (e, t, le-leb limit start h) (ap₂ capped_sum (l.kept.0 h) cell-counts ∙ s)
      after-limit false t h =
          let g : gain ≡ empty = total-empty gain (eqb-true (total gain) 0 (not-false _ (sym c.changes_is ∙ t))) in
          z ∙ simp (e, t) (l.kept.0 h ∙ sym (plus-empty l.sum) ∙ ap (λ (m : NonCanonicality). l.sum ⊕ m) (sym g))

  module _ {b : Bool} (d : b ≡ changed || cell.changes) where
    changed-on : b ≡ not (eqb (total Sum) 0)
    changed-on = d ∙ ap₂ (λ (x y : Bool). x || y) l.changed_is c.changes_is ∙ go (total l.sum) (total gain)
        ∙ ap (λ (x : ℕ). not (eqb x 0)) both
      where
        both : total l.sum + total gain ≡ total Sum
        both = omega arith

        go : (m n : ℕ) → (not (eqb m 0) || not (eqb n 0)) ≡ not (eqb (m + n) 0)
        go zero n = let z : n ≡ 0 + n = omega arith in ap (λ (x : ℕ). not (eqb x 0)) z
        go (suc m) n = ap (λ (x : Bool). not x || not (eqb n 0)) (ne_eqb (suc m) 0 (λ z. omega arith))
            ∙ sym (ap not (ne_eqb (suc m + n) 0 (λ z. omega arith)))

    -- ---- the character after the cell

    no_char : cell.packed ≡ 0 → U ≡ []
    no_char z = (packed_stop text cell.end cell.packed c.packed_is z).chars_none

    other-class : cell.packed ≡ 0 → cell.class ≡ other
    other-class z = c.class_is ∙ ap (λ (n : ℕ). class_of (n / 8)) z ∙ ascii_other 0 (omega arith) (λ e. omega arith) (λ e. omega arith)
        (λ i j. omega arith)

    pub reads-next : 1 ≤ cell.packed → Step text cell.end (cell.packed / 8) (cell.packed % 8)
    reads-next h = packed_step text cell.end cell.packed c.packed_is (λ z. omega arith)

    no-selector-next : {v w : ℕ} → Step text cell.end v w → is_selector v ≡ false
    no-selector-next {v} {w} s = go (after-stops is_selector T) (sym text_after_lem ∙ s.chars_on)
      where
        go : {t : List ℕ} → Stops is_selector t → t ≡ v ∷ chars (drop (cell.end + w) text) → is_selector v ≡ false
        go at_end e = let z : 0 ≡ suc (length (chars (drop (cell.end + w) text))) = ap length e in absurd (omega arith)
        go (at_char {c = x} n) e = let z : x ≡ v = cc in subst (λ (y : ℕ). is_selector y ≡ false) z n

    -- A character stands there if the item continues, or if links or a unit start.
    pub on-char : (q : State) → next_of (transition state cell.class) ≡ Some q → 1 ≤ cell.packed
    on-char q e = ⊎_elim (λ h. h) (λ h. absurd (true≢false (no (omega arith)))) (le_or_lt 1 cell.packed)
      where
        no : cell.packed ≡ 0 → true ≡ false
        no z = let m = next-on (transition state cell.class) q e in let n = ap (transition state) (other-class z)
            ∙ inner-other state l.inside in cc

    pub begin-char : (start_state cell.class ≡ plain → ⊥) → 1 ≤ cell.packed
    unfolding start_state
    begin-char q = ⊎_elim (λ h. h) (λ h. absurd (q (ap start_state (other-class (omega arith))))) (le_or_lt 1 cell.packed)

    -- The item continues with that character.
    pub walking_on : {k : NonCanonicality} → Keeps limit start Sum k → (q : State) → next_of (transition state cell.class) ≡ Some q
        → Walking p text limit from start (cell.packed / 8) cell.index (cell.end + cell.packed % 8) q b n k
    walking_on {k} y q e = go (on-char q e)
      where
        on : transition state cell.class ≡ Some q
        on = next-on (transition state cell.class) q e

        go : 1 ≤ cell.packed → Walking p text limit from start (cell.packed / 8) cell.index (cell.end + cell.packed % 8) q b n k
        go h =
            let s = reads-next h in
            let v = cell.packed / 8 in
            let m : transition state (class_of v) ≡ Some q = ap (transition state) (sym c.class_is) ∙ on in
            let t = chars (drop (cell.end + cell.packed % 8) text) in
            let f : (split_from state U).0 ≡ v ∷ (split_from q t).0 = ap (λ (x : List ℕ). (split_from state x).0) s.chars_on
            ∙ ap (λ (a : List ℕ × List Item). a.0) (split_from-some state q v t m) in
            record {
              passed = l.passed;
              entry = sym c.index_is;
              inside = sym (inner-transition state q (class_of v) m) ∙ l.inside;
              pos = cell.end;
              wide = cell.packed % 8;
              reads = s;
              at_is = refl;
              clean = no-selector-next s;
              on = omega (arith, further);
              item = l.item;
              after = l.after;
              items_are = l.items_are;
              end_same = omega (arith, end_on, ap (size width) f, step-width s);
              sum = Sum;
              counted = total-on;
              few_counts = few_on;
              changed_is = changed-on;
              kept = y;
            }

    -- The item ends before that character.
    module _ (e : next_of (transition state cell.class) ≡ None) where
      split_from-empty : (split_from state U).0 ≡ []
      unfolding split_from
      split_from-empty = ⊎_elim go (λ h. ap (λ (x : List ℕ). (split_from state x).0) (no_char (omega arith))) (le_or_lt 1 cell.packed)
        where
          go : 1 ≤ cell.packed → (split_from state U).0 ≡ []
          go h =
              let s = reads-next h in
              let m : transition state (class_of (cell.packed / 8)) ≡ None = ap (transition state) (sym c.class_is)
              ∙ next_stop (transition state cell.class) e in
              ap (λ (x : List ℕ). (split_from state x).0) s.chars_on
              ∙ ap (λ (a : List ℕ × List Item). a.0)
              (split_from-none state (cell.packed / 8) (chars (drop (cell.end + cell.packed % 8) text)) m)

      ends-here : cell.end ≡ start + size width l.item.chars
      ends-here = omega (arith, end_on, ap (size width) split_from-empty)

      finds : b ≡ true → Counted p text start cell.end Sum
      finds t = counted-item p text start cell.end l.items_are ends-here Sum (some_of (total Sum) refl) total-on
        where
          some_of : (m : ℕ) → total Sum ≡ m → 1 ≤ m
          some_of zero z = absurd (true≢false (sym t ∙ changed-on ∙ ap not (eq-eqb (total Sum) 0 z)))
          some_of (suc m) z = omega arith

      -- The item is a finding that ends after the limit.
      pub walking-finds : {k : NonCanonicality} → Keeps limit start Sum k → {q : Bool} → q ≡ b && ltb limit cell.end → q ≡ true
          → FindsFrom p text limit (record { start = start; end = cell.end; counts = k; present = true; passed = n })
      walking-finds {k} y e t =
          let h = both_true b (ltb limit cell.end) (sym e ∙ t) in
          let f = finds h.0 in (
            ltb-true limit cell.end h.1,
            f.finds,
            λ m. subst (λ (x : NonCanonicality). Counted p text start cell.end x) (sym (y.0 m)) f,
          )

      -- The item is no finding, or does not end after the limit: it is passed, and `counts` is empty.
      pub walking-passes : {q : Bool} {m : ℕ} → q ≡ b && ltb limit cell.end → q ≡ false → m ≡ cond b 1 0
          → FindingsBetween p text limit from cell.end (n + m)
      walking-passes {q} {m} e f z = go b refl (sym e ∙ f) z
        where
          go : (a : Bool) → b ≡ a → (a && ltb limit cell.end) ≡ false → m ≡ cond a 1 0
              → FindingsBetween p text limit from cell.end (n + m)
          go true t h y = rw y (over_on l.passed (over_finding (finds t).finds (ltb-false limit cell.end h)))
          go false t h y =
              let s : total Sum ≡ 0 = eqb-true (total Sum) 0 (not-false _ (sym changed-on ∙ t)) in
              let k : n ≡ n + m = omega (arith, y) in
              subst (λ (i : ℕ). FindingsBetween p text limit from cell.end i) k
              (over_passes l.passed (uncounted_item p text start cell.end l.items_are ends-here
              (omega (arith, ap total total-on))))

      pub none_kept : {k : NonCanonicality} → Keeps limit start Sum k → {q : Bool} → q ≡ b && ltb limit cell.end → q ≡ false → k ≡ empty
      none_kept {k} y e f = ⊎_elim (λ h. after-limit h b refl) y.1 (le_or_lt limit start)
        where
          after-limit : limit ≤ start → (a : Bool) → b ≡ a → k ≡ empty
          after-limit h true t =
              let z = lt-ltb limit cell.end (omega (arith, further)) in
              absurd (true≢false (sym (and_both b (ltb limit cell.end) t z) ∙ sym e ∙ f))
          after-limit h false t = y.0 h ∙ total-empty Sum (eqb-true (total Sum) 0 (not-false _ (sym changed-on ∙ t)))

      -- After a passed item, another item of links or units starts.
      pub walking-again : {m : ℕ} {k : NonCanonicality} → FindingsBetween p text limit from cell.end m → k ≡ empty
          → (start_state cell.class ≡ plain → ⊥)
          → Walking p text limit from cell.end (cell.packed / 8) cell.index (cell.end + cell.packed % 8)
          (start_state cell.class) false m k
      walking-again {m} {k} a y q = go (begin-char q)
        where
          go : 1 ≤ cell.packed → Walking p text limit from cell.end (cell.packed / 8) cell.index (cell.end + cell.packed % 8)
              (start_state cell.class) false m k
          go h =
              let s = reads-next h in
              let j = c.class_is in
              let i : inner (start_state (class_of (cell.packed / 8))) ≡ true =
              begins_inner (class_of (cell.packed / 8)) (λ z. true≢false (sym (selector_class (cell.packed / 8) z) ∙ no-selector-next s))
              (λ z. q (ap start_state j ∙ z)) in
              rw j (walking_begin p text limit from cell.index a y s (sym c.index_is) i)

-- ---- where the walk starts

-- In the arm for the states of links and units, the kind of the item is one of these.
pub structured_place : (q : State) → OneOf (2 ∷ 3 ∷ 4 ∷ 5 ∷ 6 ∷ []) (tag_of the-state q) → Structured (kind_of q)
unfolding kind_of
structured_place plain o = absurd (miss (2 ∷ 3 ∷ 4 ∷ 5 ∷ 6 ∷ []) 0 tt o)
structured_place selectors o = absurd (miss (2 ∷ 3 ∷ 4 ∷ 5 ∷ 6 ∷ []) 1 tt o)
structured_place links o = inl refl
structured_place one_ri o = inr refl
structured_place unit o = inr refl
structured_place joined o = inr refl
structured_place left_over o = inr refl

-- A run of selectors at the start of an item is a finding, and all of them are unsanctioned.
pub selectors_find : (p : Policy) {text : List ℕ} {at v w : ℕ} → Step text at v w → start_state (class_of v) ≡ selectors
    → {counts : NonCanonicality} (end n : ℕ)
    → end ≡ at + 3 * length (leading (chars (drop at text))) → n ≡ (end - at) / 3 → counts ≡ unsanctioned n → Counted p text at end counts
unfolding items
selectors_find p {text} {at} {v} {w} s b end n e i d =
    let t = chars (drop (at + w) text) in
    let u = chars (drop at text) in
    let k = begins_selectors (class_of v) b in
    let f : items u ≡ record { kind = kind_of (start_state (class_of v)); chars = v ∷ (split_from (start_state (class_of v)) t).0 }
    ∷ (split_from (start_state (class_of v)) t).1 = ap items s.chars_on in
    let r : v ∷ (split_from (start_state (class_of v)) t).0 ≡ selectors_at u = item_selectors v t (selector_class v k)
    ∙ ap selectors_at (sym s.chars_on) in
    let z : end ≡ at + size width (v ∷ (split_from (start_state (class_of v)) t).0) =
    omega (arith, ap (size width) r, selectors_end text at) in
    let m = width_some v in
    let o : n ≡ length (leading u) = omega arith in
    let y = d ∙ ap unsanctioned o in
    subst (λ (x : NonCanonicality). Counted p text at end x) (sym y)
    (counted-item p text at end f z (unsanctioned (length (leading u))) (omega arith)
    (total-leading p u (chars (drop end text)) (split_at text at e)))
