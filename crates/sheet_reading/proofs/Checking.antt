-- The loop of the check follows the run of the automaton.
use Rattle.std.specs.Prelude.{Err, None, Option, Result, Some, unwrap_or, ⊤}
use mathlib.Core.Path.{◌≡◌, refl, ap, ap₂, sym, ◌∙◌, subst}
use mathlib.Core.Bool.{Bool, true, false, cond}
use mathlib.Core.List.{List, ◌∷◌}
use Prim.Native.Nat.{ℕ, ◌+◌, ◌≤◌, ◌<◌}
use native.Mathlib.Numerals.{add-one}
use native.Mathlib.Omega.{arith}
use lib.Dec.{eqb}
use lib.ListN.{drop, drop_of_length-le, get_or, length}
use lib.Seq.{drop-cons}
use borrow.Author.Tests.{eq-eqb, ne_eqb}
use Rattle.base.specs.declared.Refusal.{Refusal}
use Rattle.base.specs.declared.Refusal.TheVariants.{NotASheet}
use Rattle.policy.specs.declared.Policy.{Policy}
use Rattle.policy_sheet.specs.Calls.{after_reading}
use Rattle.policy_sheet.specs.Meaning.{sheet_policy}
use Rattle.policy_sheet.specs.Reader.{
  RunResult,
  State,
  SheetReading,
  answer_of,
  descending_or,
  first_descending,
  first_non_entry,
  is_read,
  not_a_sheet,
  non_entry_or,
  pieces_of,
  reached,
  read_sheet,
  run,
  start,
  transition,
  stopped,
}
use Rattle.sheet_reading.specs.Tracking.{
  Tracks,
  StepResult,
  after_check,
  check_descending,
  check_of,
  check_non_entry,
  check_sheet,
  on,
  pieces_read,
  stop,
}
use Rattle.sheet_reading.specs.declared.cursor.Cursor.{Cursor}
use Rattle.policy_sheet.proofs.Accepts.{run_cons, run_nil, run-stops}

-- ---- answers

first_fault : (o : Option ℕ) (at : ℕ)
    → ◌≡◌ {A = Result ⊤ Refusal} (Err (NotASheet (unwrap_or o at))) (check_descending o (Err (NotASheet at)))
first_fault None at = refl
first_fault (Some n) at = refl

module _ (c : Cursor) (r : State) (h : Tracks c r) where
  pub stopped-first : {d : ℕ} (at len : ℕ) → d ≡ unwrap_or c.descending at
      → ◌≡◌ {A = Result ⊤ Refusal} (Err (NotASheet d)) (check_of len (stopped at r))
  unfolding check_of
  stopped-first at len e =
      ap (λ (n : ℕ). Err (NotASheet n)) e ∙ first_fault c.descending at
      ∙ ap (λ (o : Option ℕ). check_descending o (Err (NotASheet at))) h.descending

  by_cursor : (len : ℕ) → check_descending c.descending (cond (eqb c.line 4) (check_non_entry c.stray) (Err (NotASheet len)))
      ≡ check_of len (reached r)
  unfolding check_of
  by_cursor len =
      ap₂ (λ (o : Option ℕ) (x : Result ⊤ Refusal). check_descending o x) h.descending
      (ap₂ (λ (n : ℕ) (o : Option ℕ). cond (eqb n 4) (check_non_entry o) (Err (NotASheet len))) h.line h.stray)

  pub ended_down : {d : ℕ} (len : ℕ) → c.descending ≡ Some d → ◌≡◌ {A = Result ⊤ Refusal} (Err (NotASheet d)) (check_of len (reached r))
  ended_down len e = ap (λ (o : Option ℕ). check_descending o (cond (eqb c.line 4) (check_non_entry c.stray) (Err (NotASheet len)))) (sym e)
      ∙ by_cursor len

  no_down : (len : ℕ) (t : Bool) → c.descending ≡ None → eqb c.line 4 ≡ t
      → cond t (check_non_entry c.stray) (Err (NotASheet len)) ≡ check_of len (reached r)
  no_down len t e f =
      ap₂ (λ (o : Option ℕ) (u : Bool). check_descending o (cond u (check_non_entry c.stray) (Err (NotASheet len)))) (sym e) (sym f)
      ∙ by_cursor len

  pub ended_four : {o : Option ℕ} (len : ℕ) → c.descending ≡ None → c.line ≡ 4 → c.stray ≡ o
      → check_non_entry o ≡ check_of len (reached r)
  ended_four len e f g = ap check_non_entry (sym g) ∙ no_down len true e (eq-eqb c.line 4 f)

  pub ended-short : (len : ℕ) → c.descending ≡ None → (c.line ≡ 4 → ⊥)
      → ◌≡◌ {A = Result ⊤ Refusal} (Err (NotASheet len)) (check_of len (reached r))
  ended-short len e f = no_down len false e (ne_eqb c.line 4 f)

-- ---- the loop

-- The run over the whole sheet is the run over the rest from the state that the cursor tracks.
pub record Checking (s : List ℕ) (c : Cursor) (at : ℕ) : Type 0 where
  pub state : State
  pub tracks : Tracks c state
  pub same : run 0 start s ≡ run at state (drop at s)
  pub in_text : at ≤ length s

unfoldable pub check_begin : {c : Cursor} (s : List ℕ) → Tracks c start → Checking s c 0
check_begin s h = record { state = start; tracks = h; same = refl; in_text = omega arith }

pub here : (s : List ℕ) (at : ℕ) → at < length s → drop at s ≡ get_or s at 0 ∷ drop (at + 1) s
here s at l = drop-cons s at 0 l ∙ ap (λ (n : ℕ). get_or s at 0 ∷ drop n s) (sym (add-one at))

pub check_on : {s : List ℕ} {c x : Cursor} {at : ℕ} {y : Option Cursor} (k : Checking s c at) → at < length s
    → StepResult (transition at k.state (get_or s at 0)) y → y ≡ Some x
    → Checking s x (at + 1)
check_on {s} {c} {x} {at} k l t e = go refl t e
  where
    as-cursor : {a b : Cursor} → Some a ≡ Some b → a ≡ b
    as-cursor e = cc

    go : {o : Option State} {y : Option Cursor} → transition at k.state (get_or s at 0) ≡ o → StepResult o y → y ≡ Some x
        → Checking s x (at + 1)
    go p (on {q = q} h) e = record {
      state = q;
      tracks = subst (λ (z : Cursor). Tracks z q) (as-cursor e) h;
      same = k.same ∙ ap (run at k.state) (here s at l) ∙ run_cons at k.state q (get_or s at 0) (drop (at + 1) s) p;
      in_text = omega arith;
    }
    go p stop e = let z : ◌≡◌ {A = ℕ} 0 1 = cc in absurd (omega arith)

pub check_stop : {s : List ℕ} {c : Cursor} {at : ℕ} {y : Option Cursor} (k : Checking s c at) → at < length s
    → StepResult (transition at k.state (get_or s at 0)) y → y ≡ None
    → check_sheet s ≡ check_of (length s) (stopped at k.state)
unfolding check_sheet
check_stop {s} {c} {at} k l t e =
    ap (check_of (length s)) (k.same ∙ ap (run at k.state) (here s at l) ∙ run-stops at k.state (get_or s at 0) (drop (at + 1) s)
    (go refl t e))
  where
    go : {o : Option State} {y : Option Cursor} → transition at k.state (get_or s at 0) ≡ o → StepResult o y → y ≡ None
        → transition at k.state (get_or s at 0) ≡ None
    go p (on h) e = let z : ◌≡◌ {A = ℕ} 0 1 = cc in absurd (omega arith)
    go p stop e = p

pub check_end : {s : List ℕ} {c : Cursor} {at : ℕ} (k : Checking s c at) → length s ≤ at
    → check_sheet s ≡ check_of (length s) (reached k.state)
unfolding check_sheet
check_end {s} k l =
    ap (check_of (length s)) (k.same ∙ ap (run _ k.state) (drop_of_length-le s l) ∙ run_nil _ k.state)

-- ---- the check and the reading

module _ (p : Policy) (out : List ℕ) where
  by-other : (o : Option ℕ) → after_reading (non_entry_or o (is_read p)) out ≡ after_check (check_non_entry o) p out
  by-other None = refl
  by-other (Some n) = refl

  by-line : (t : Bool) (o : Option ℕ) (n : ℕ) → after_reading (cond t (non_entry_or o (is_read p)) (not_a_sheet n)) out
      ≡ after_check (cond t (check_non_entry o) (Err (NotASheet n))) p out
  by-line true o n = by-other o
  by-line false o n = refl

  by_down : (o : Option ℕ) (x : SheetReading) (y : Result ⊤ Refusal) → after_reading x out ≡ after_check y p out
      → after_reading (descending_or o x) out ≡ after_check (check_descending o y) p out
  by_down None x y e = e
  by_down (Some n) x y e = refl

by_ran : (len : ℕ) (x : RunResult) (out : List ℕ)
    → after_reading (answer_of len x) out ≡ after_check (check_of len x) (sheet_policy (pieces_of x)) out
unfolding answer_of check_of pieces_of
by_ran len (stopped n r) out =
    by_down (sheet_policy r.pieces) out (first_descending r.pieces) (not_a_sheet n) (Err (NotASheet n)) refl
by_ran len (reached r) out =
    by_down (sheet_policy r.pieces) out (first_descending r.pieces) _
    (cond (eqb r.line 4) (check_non_entry (first_non_entry r.pieces)) (Err (NotASheet len)))
    (by-line (sheet_policy r.pieces) out (eqb r.line 4) (first_non_entry r.pieces) len)

-- Reading is the check, and the policy of the pieces if the check is passed.
pub checked-reading : (s out : List ℕ)
    → after_reading (read_sheet s) out ≡ after_check (check_sheet s) (sheet_policy (pieces_read s)) out
unfolding check_sheet read_sheet pieces_read
checked-reading s out = by_ran (length s) (run 0 start s) out
