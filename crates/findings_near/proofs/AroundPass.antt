-- The passes around a stretch: the tests by their branches, and of a finding that starts in the stretch; where a pass stops, the two
-- tables, and writing both lists.
use Rattle.base.specs.declared.Refusal.{Refusal}
use Rattle.std.specs.Prelude.{Ok, Result}
use mathlib.Core.Path.{◌≡◌, refl, ap, ap₂, subst, sym, ◌∙◌}
use mathlib.Core.Logic.{⊎_elim}
use mathlib.Core.Bool.{Bool, true, false, ◌&&◌, and-false, cond, not}
use mathlib.Core.List.{List, [], ◌∷◌, ◌++◌}
use Prim.Native.Nat.{ℕ, ◌+◌, ◌/◌, ◌<◌, ◌≤◌}
use native.Mathlib.Omega.{arith}
use lib.Dec.{leb, ltb}
use lib.ListN.{length}
use borrow.Author.Tests.{le-leb, le-ltb, lt-leb, lt-ltb, ltb-false, ltb-true}
use Rattle.base.specs.Lists.{filter}
use Rattle.base.specs.Output.{PutAt}
use Rattle.base.specs.Tables.{rows_bytes}
use Rattle.base.specs.Words.{bytes_of}
use Rattle.base.specs.declared.Refusal.TheVariants.{TableTooShort}
use Rattle.base.proofs.Answering.{answers}
use Rattle.base.proofs.Tests.{le_or_lt}
use Rattle.base.proofs.TableBytes.{rows-room}
use Rattle.base.proofs.Writer.{Writing, begin, finish, put, room}
use Rattle.positions.specs.Positions.{AtPosition, capped_plus, count_between}
use Rattle.positions.specs.declared.TextCount.{TextCount}
use Rattle.policy.specs.declared.Policy.{Policy}
use Rattle.analysis.specs.declared.types.Finding.{Finding}
use Rattle.text_pass.specs.Findings.{NextFinding}
use Rattle.text_pass.specs.declared.findings.FindingSpan.{FindingSpan}
use Rattle.formatter.specs.List.{row_bytes, row_numbers}
use Rattle.formatter.proofs.RowBytes.{length_row}
use Rattle.formatter.proofs.Steps.{row_by}
use Rattle.findings_near.specs.Around.{AfterBoth, EndsAround, fill_both, holds, inside, meets, only_shares, refuses}
use Rattle.findings_near.specs.Helpers.{IsLast, IsNext, rows_from}
use Rattle.findings_near.specs.declared.ListedAround.{ListedAround}
use Rattle.findings_near.specs.Theorems.{InTextOrder}
use Rattle.findings_near.proofs.Order.{ordered-from}
use Rattle.findings_near.proofs.NextRows.{front, is_next, write-one}
use Rattle.findings_near.proofs.Stretches.{rest-apart}

-- ---- the tests by their branches

module _ (from to start end : ℕ) where
  -- What an && is of which one side is false.
  all_no : (x y : Bool) → false ≡ (x && (false && y))
  all_no true y = refl
  all_no false y = refl

  pub empty_holds : to ≤ from → false ≡ holds from to start end
  unfolding holds
  empty_holds h = ap (λ (x : Bool). x && (leb from start && leb end to)) (sym (le-ltb from to h))

  pub early_holds : start < from → false ≡ holds from to start end
  unfolding holds
  early_holds h = all_no (ltb from to) (leb end to) ∙ ap (λ (x : Bool). ltb from to && (x && leb end to)) (sym (lt-leb from start h))

  pub may_hold : from < to → from ≤ start → leb end to ≡ holds from to start end
  unfolding holds
  may_hold g h = sym (ap₂ (λ (x y : Bool). x && (y && leb end to)) (lt-ltb from to g) (le-leb from start h))

  -- The three tests of `meets`, and the fourth.
  abbrev meets_by : Bool → Bool → Bool → Bool
  meets_by x y z = (x && (y && z)) && not (holds from to start end)

  no_meeting : (x y z w : Bool) → x && (y && z) ≡ false → false ≡ ((x && (y && z)) && w)
  no_meeting x y z w e = ap (λ (b : Bool). b && w) (sym e)

  and_no : (x y : Bool) → x && (y && false) ≡ false
  and_no true true = refl
  and_no true false = refl
  and_no false y = refl

  pub late_meets : to ≤ start → false ≡ meets from to start end
  unfolding meets
  late_meets h =
      no_meeting (ltb from to) false (ltb from end) (not (holds from to start end)) (sym (all_no (ltb from to) (ltb from end)))
      ∙ ap (λ (x : Bool). meets_by (ltb from to) x (ltb from end)) (sym (le-ltb start to h))

  pub early_meets : end ≤ from → false ≡ meets from to start end
  unfolding meets
  early_meets h =
      no_meeting (ltb from to) (ltb start to) false (not (holds from to start end)) (and_no (ltb from to) (ltb start to))
      ∙ ap (λ (x : Bool). meets_by (ltb from to) (ltb start to) x) (sym (le-ltb from end h))

  pub may_meet : from < to → start < to → from < end → {b : Bool} → b ≡ holds from to start end → not b ≡ meets from to start end
  unfolding meets
  may_meet g h k e =
      ap not e
      ∙ sym (ap₂ (λ (x y : Bool). meets_by x y (ltb from end)) (lt-ltb from to g) (lt-ltb start to h)
      ∙ ap (λ (x : Bool). meets_by true true x) (lt-ltb from end k))

-- ---- the tests of a finding that starts in the stretch

module _ (from to start end : ℕ) (h : from ≤ start) where
  -- It lies inside if it does not end after the stretch.
  pub held : start < to → end ≤ to → true ≡ holds from to start end
  held k l = sym (le-leb end to l) ∙ may_hold from to start end (omega arith) h

  pub held-apart : start < to → end ≤ to → false ≡ meets from to start end
  unfolding meets
  held-apart k l = sym (and-false (ltb from to && (ltb start to && ltb from end)))
      ∙ ap (λ (b : Bool). (ltb from to && (ltb start to && ltb from end)) && not b) (held k l)

  -- Else it only shares a byte with the stretch.
  pub past-holds : to < end → false ≡ holds from to start end
  unfolding holds
  past-holds l = ⊎_elim (λ g. empty_holds from to start end g)
      (λ g. sym (lt-leb end to l) ∙ may_hold from to start end g h) (le_or_lt to from)

  pub past-meets : to < end → ltb start to ≡ meets from to start end
  past-meets l = ⊎_elim (λ k. le-ltb start to k ∙ late_meets from to start end k)
      (λ k. lt-ltb start to k ∙ may_meet from to start end (omega arith) k (omega arith) (past-holds l)) (le_or_lt to start)

-- ---- whether the pass goes on

module _ (start to : ℕ) {present b : Bool} (e : b ≡ (present && ltb start to)) where
  pub goes_on : b ≡ true → (present ≡ true) × (start < to)
  goes_on h = go present (sym e ∙ h)
    where
      go : (x : Bool) → (x && ltb start to) ≡ true → (x ≡ true) × (start < to)
      go true f = (refl, ltb-true start to f)
      go false f = let z : ◌≡◌ {A = ℕ} 0 1 = cc in absurd (omega arith)

  pub stops : b ≡ false → {A : Type 0} → (present ≡ false → A) → (present ≡ true → to ≤ start → A) → A
  stops h {A} f g = go present (sym e ∙ h) f g
    where
      go : (x : Bool) → (x && ltb start to) ≡ false → (x ≡ false → A) → (x ≡ true → to ≤ start → A) → A
      go true k f g = g refl (ltb-false start to k)
      go false k f g = f refl

-- The next finding, with the positions of its start and its end, where the pass goes on.
pub goes-on-next : (to : ℕ) {p : Policy} {text : List ℕ} {at : ℕ} {r : FindingSpan} → NextFinding p text 0 at r → {b : Bool}
    → b ≡ (r.present && ltb r.start to) → b ≡ true → {before first last : TextCount} → AtPosition text at before
    → first ≡ capped_plus before (count_between text at r.start) → last ≡ capped_plus first (count_between text r.start r.end)
    → IsNext p text at (row_by r.start r.end r.counts first last)
goes-on-next to {r = r} n e h a f l = is_next n (goes_on r.start to e h).0 a refl f refl l

-- ---- where the pass stops

module _ (p : Policy) (text : List ℕ) (from to : ℕ) where
  -- No finding from the offset on is in either list.
  pub record NoneLeft (at : ℕ) : Type 0 where
    pub inner : filter (inside from to) (rows_from p text at) ≡ []
    pub outer : filter (only_shares from to) (rows_from p text at) ≡ []

  pub none_left : {at stop : ℕ} → IsLast p text at stop → NoneLeft at
  unfolding filter
  none_left l = record {
    inner = ap (filter (inside from to)) l.rows;
    outer = ap (filter (only_shares from to)) l.rows;
  }

  pub none-reached : {at : ℕ} {f : Finding} → IsNext p text at f → to ≤ f.start → NoneLeft at
  none-reached {at} {f} n h =
      let r = n.rows in
      let a = rest-apart from to (subst-order r) h in
      record { inner = ap (filter (inside from to)) r ∙ a.0; outer = ap (filter (only_shares from to)) r ∙ a.1 }
    where
      subst-order : rows_from p text at ≡ f ∷ rows_from p text f.end → InTextOrder (f ∷ rows_from p text f.end)
      subst-order e = subst InTextOrder e (ordered-from p text at)

-- ---- the tables

module _ (holding sharing : List Finding) (inner outer : List ℕ) {i o : ℕ} (e : i ≡ length holding) (f : o ≡ length sharing) where
  pub inner_room : i ≤ length inner / row_bytes → length (rows_bytes row_numbers holding) ≤ length inner
  inner_room h = rows-room row_numbers row_bytes length_row (omega arith) holding inner e h

  pub outer_room : o ≤ length outer / row_bytes → length (rows_bytes row_numbers sharing) ≤ length outer
  outer_room h = rows-room row_numbers row_bytes length_row (omega arith) sharing outer f h

  pub inner_short : length inner / row_bytes < i → refuses inner outer (TableTooShort i) ≡ fill_both holding sharing inner outer
  unfolding fill_both
  inner_short h =
      ap (λ (m : ℕ). refuses inner outer (TableTooShort m)) e ∙ simp (lt-leb (length holding) (length inner / row_bytes) (omega arith))

  pub outer_short : i ≤ length inner / row_bytes → length outer / row_bytes < o
      → refuses inner outer (TableTooShort o) ≡ fill_both holding sharing inner outer
  unfolding fill_both
  outer_short h k =
      ap (λ (m : ℕ). refuses inner outer (TableTooShort m)) f
      ∙ simp (
        le-leb (length holding) (length inner / row_bytes) (omega arith),
        lt-leb (length sharing) (length outer / row_bytes) (omega arith),
      )

  pub both-filled : {inner' outer' : List ℕ} {r s : ℕ} → i ≤ length inner / row_bytes → o ≤ length outer / row_bytes
      → PutAt inner 0 (rows_bytes row_numbers holding) inner' r → PutAt outer 0 (rows_bytes row_numbers sharing) outer' s
      → record { answer = Ok (record { inside = i; sharing = o }); inner = inner'; outer = outer' } ≡ fill_both holding sharing inner outer
  unfolding fill_both
  both-filled {inner'} {outer'} h k p q =
      made (ap₂ (λ (a b : ℕ). Ok (record { inside = a; sharing = b })) e f)
      (front inner (rows_bytes row_numbers holding) (inner_room h) p.bytes)
      (front outer (rows_bytes row_numbers sharing) (outer_room k) q.bytes)
      ∙ simp (
        le-leb (length holding) (length inner / row_bytes) (omega arith),
        le-leb (length sharing) (length outer / row_bytes) (omega arith),
      )
    where
      made : {a b : Result ListedAround Refusal} {x y z w : List ℕ} → a ≡ b → x ≡ y → z ≡ w
          → ◌≡◌ {A = AfterBoth} (record { answer = a; inner = x; outer = z }) (record { answer = b; inner = y; outer = w })
      made g h k = cc

-- The answer and both tables that the definition gives.
pub ends_around : {said : AfterBoth} {r : Result ListedAround Refusal} {inner outer : List ℕ}
    → ◌≡◌ {A = AfterBoth} (record { answer = r; inner = inner; outer = outer }) said → EndsAround said r inner outer
ends_around e = record {
  answer = answers (ap (λ (a : AfterBoth). a.answer) e);
  inner_table = ap (λ (a : AfterBoth). a.inner) e;
  outer_table = ap (λ (a : AfterBoth). a.outer) e;
}

-- ---- writing

module _ (p : Policy) (text : List ℕ) (test : Finding → Bool) (table₀ : List ℕ) where
  -- The rows of the findings from the offset on that pass the test are still to be written.
  abbrev pub Filling : List ℕ → ℕ → ℕ → Type 0
  Filling table at to = Writing (rows_bytes row_numbers (filter test (rows_from p text 0))) 0 table₀
      (rows_bytes row_numbers (filter test (rows_from p text at))) table to

  pub filling_begin : length (rows_bytes row_numbers (filter test (rows_from p text 0))) ≤ length table₀ → Filling table₀ 0 0
  filling_begin h = begin (rows_bytes row_numbers (filter test (rows_from p text 0))) 0 table₀ (omega arith)

  module _ {table : List ℕ} {at to : ℕ} (w : Filling table at to) where
    module _ {f : Finding} (n : IsNext p text at f) {a : Bool} (e : a ≡ test f) where
      next_bytes_lem : rows_bytes row_numbers (filter test (rows_from p text at))
          ≡ cond a (bytes_of (row_numbers f)) [] ++ rows_bytes row_numbers (filter test (rows_from p text f.end))
      next_bytes_lem = ap (λ (l : List Finding). rows_bytes row_numbers (filter test l)) n.rows
          ∙ write-one test f (rows_from p text f.end) e

      pub filling-room : a ≡ true → to + row_bytes ≤ length table
      filling-room g =
          let r = room (rows_bytes row_numbers (filter test (rows_from p text 0))) 0 table₀
          (rows_bytes row_numbers (filter test (rows_from p text at))) (cond a (bytes_of (row_numbers f)) [])
          (rows_bytes row_numbers (filter test (rows_from p text f.end))) w next_bytes_lem in
          omega (arith, r, length_row f, ap (λ (b : Bool). length (cond b (bytes_of (row_numbers f)) [])) g)

      pub filling-on : {table' : List ℕ} {r : ℕ} → PutAt table to (cond a (bytes_of (row_numbers f)) []) table' r → Filling table' f.end r
      filling-on q = put (rows_bytes row_numbers (filter test (rows_from p text 0))) 0 table₀
          (rows_bytes row_numbers (filter test (rows_from p text at))) (rows_bytes row_numbers (filter test (rows_from p text f.end))) w q
          next_bytes_lem

  pub filling_end : (at : ℕ) {table : List ℕ} {to : ℕ} → Filling table at to → filter test (rows_from p text at) ≡ []
      → PutAt table₀ 0 (rows_bytes row_numbers (filter test (rows_from p text 0))) table to
  unfolding rows_bytes
  filling_end at w e = finish (rows_bytes row_numbers (filter test (rows_from p text 0))) 0 table₀
      (rows_bytes row_numbers (filter test (rows_from p text at))) w (ap (rows_bytes row_numbers) e)

-- ---- where nothing is written

-- No row is written at the front of a table.
pub none_put : (table : List ℕ) {l : List Finding} → l ≡ [] → PutAt table 0 (rows_bytes row_numbers l) table 0
unfolding rows_bytes
none_put table {l} e = subst (λ (l : List Finding). PutAt table 0 (rows_bytes row_numbers l) table 0) (sym e)
    (record { ends = omega arith; bytes = refl })

pub no_rows : (l : List Finding) {n : ℕ} → n ≡ length l → n ≡ 0 → l ≡ []
no_rows [] e z = refl
no_rows (f ∷ l) e z = absurd (omega arith)
