-- The sets of the pieces that were read.
use Rattle.std.specs.Prelude.{Some, None, Option}
use mathlib.Core.Path.{◌≡◌, refl, ap, ap₂, sym, ◌∙◌, subst}
use mathlib.Core.Bool.{Bool, true, false, cond, true≢false, ◌&&◌, ◌||◌}
use mathlib.Core.List.{List, [], ◌∷◌, ◌++◌}
use mathlib.Core.Logic.{⊎_elim}
use Prim.Native.Nat.{ℕ, suc, ◌+◌, ◌<◌, ◌≤◌}
use native.Mathlib.Omega.{arith}
use lib.Dec.{eqb, ltb}
use lib.ListN.{drop, drop_of_length-le, get_or, length}
use borrow.Author.Tests.{eq-eqb, eqb-true, ltb-true, ne_eqb}
use Rattle.base.proofs.Tests.{both_true, either_true, or_false}
use Rattle.base.specs.Ranges.{within}
use Rattle.emoji.specs.UnicodeData.{variation_entries}
use Rattle.policy_key_set.specs.Sets.{Holds, entry_count}
use Rattle.policy_key_set.proofs.Members.{holds_same}
use Rattle.policy.specs.PolicyBytes.{PolicyValue}
use Rattle.policy.specs.declared.Policy.{Policy}
use Rattle.policy_sheet.specs.Grammar.{Closer, Piece, Point, allowed_digits, comma_closes, newline_closes}
use Rattle.policy_sheet.specs.Reader.{
  ByteKind,
  RunResult,
  State,
  before_piece,
  is_none,
  kind_of,
  piece_read,
  pieces_of,
  run,
  start,
  transition,
  transition_by,
}
use Rattle.policy_sheet.proofs.Accepts.{close_step, run_cons, run_nil, run-stops, transition_in}
use Rattle.policy_sheet.proofs.ByteKinds.{HasKind, is_comma, is_dash, is_digit, is_newline, is_other, kind}
use Rattle.policy_sheet.proofs.Words.{one-meaning, pieces_mean}
use Rattle.policy_sheet.proofs.Faults.{closed-pieces}
use Rattle.policy_sheet.specs.Meaning.{covered, has, in_set, sheet_policy}
use Rattle.policy_sheet.proofs.ReadsBack.{covered_append}
use Rattle.sheet_reading.specs.declared.cursor.Cursor.{Cursor}
use Rattle.sheet_reading.specs.declared.cursor.RangeStart.{RangeStart}
use Rattle.sheet_reading.proofs.Checking.{Checking, check_begin, here}
use Rattle.sheet_reading.proofs.Tracked.{first_ranged, first_single}
use Rattle.sheet_reading.specs.Tracking.{SetsHold, Tracks, Spans, StepResult, closing, on, pieces_read, stop}

in_more : {line lo hi : ℕ} (xs : List Piece) (x : Piece) (k i : ℕ) → Spans x line lo hi
    → in_set (xs ++ (x ∷ [])) k i ≡ (in_set xs k i || (eqb line k && within lo hi (get_or variation_entries i 0)))
unfolding covered
in_more {line} {lo} {hi} xs x k i s =
    let c = get_or variation_entries i 0 in
    covered_append xs (x ∷ []) k c ∙ ap (λ (b : Bool). covered xs k c || b) (or_false (has k c x))
    ∙ ap (λ (l : ℕ). covered xs k c || (eqb l k && within x.first.value x.last.value c)) s.line_is
    ∙ ap₂ (λ (a b : ℕ). covered xs k c || (eqb line k && within a b c)) s.first_is s.last_is

pub set_more : {line lo hi k : ℕ} (vs : List ℕ) (xs : List Piece) (x : Piece) → line ≡ k → Spans x line lo hi
    → Holds (λ (i : ℕ). in_set xs k i || within lo hi (get_or variation_entries i 0)) vs → Holds (in_set (xs ++ (x ∷ [])) k) vs
set_more {line} {lo} {hi} {k} vs xs x e s h =
    holds_same entry_count (λ (i : ℕ). in_set xs k i || within lo hi (get_or variation_entries i 0)) (in_set (xs ++ (x ∷ [])) k) vs h
    (λ i l. sym (in_more xs x k i s ∙ ap (λ (b : Bool). in_set xs k i || (b && within lo hi (get_or variation_entries i 0)))
    (eq-eqb line k e)))

pub set_other : {line lo hi k : ℕ} (vs : List ℕ) (xs : List Piece) (x : Piece) → (line ≡ k → ⊥) → Spans x line lo hi
    → Holds (in_set xs k) vs → Holds (in_set (xs ++ (x ∷ [])) k) vs
set_other {line} {lo} {hi} {k} vs xs x e s h =
    holds_same entry_count (in_set xs k) (in_set (xs ++ (x ∷ [])) k) vs h
    (λ i l. sym (in_more xs x k i s ∙ ap (λ (b : Bool). in_set xs k i || (b && within lo hi (get_or variation_entries i 0)))
    (ne_eqb line k e) ∙ or_false (in_set xs k i)))

-- ---- what a byte closes

line-below : (at : ℕ) (r t : State) (b : ℕ) → transition at r b ≡ Some t → r.line < 4
unfolding transition
line-below at r t b e = go (ltb r.line 4) refl e
  where
    go : (u : Bool) → ltb r.line 4 ≡ u → cond u (transition_by at r (kind_of b)) None ≡ Some t → r.line < 4
    go true p e = ltb-true r.line 4 p
    go false p e = let z : ◌≡◌ {A = ℕ} 0 1 = cc in absurd (omega arith)

same_some : {a b : State} → Some a ≡ Some b → a ≡ b
same_some e = cc

closed-by : {b : ℕ} (at : ℕ) (r t : State) → Closer b → allowed_digits r.count ≡ true → transition at r b ≡ Some t
    → t.pieces ≡ r.pieces ++ (piece_read r ∷ [])
closed-by {b} at r t c a e =
    ap (λ (q : State). q.pieces) (same_some (sym e ∙ (close_step at r c (line-below at r t b e) a).goes))
    ∙ closed-pieces c r.line (r.pieces ++ (piece_read r ∷ [])) (at + 1)

some_of : {x q : State} (u : Bool) → cond u (Some x) None ≡ Some q → (u ≡ true) × (x ≡ q)
some_of true e = (refl, cc)
some_of false e = let z : ◌≡◌ {A = ℕ} 0 1 = cc in absurd (omega arith)

kept_by : {b : ℕ} {k : ByteKind} (at : ℕ) (r t : State) → HasKind b k → (Closer b → allowed_digits r.count ≡ false)
    → transition_by at r k ≡ Some t → t.pieces ≡ r.pieces
unfolding transition_by
kept_by at r t (is_digit x) f e = ap (λ (q : State). q.pieces) (sym (some_of (ltb r.count 6) e).1)
kept_by at r t is_comma f e = absurd (true≢false (sym (some_of (allowed_digits r.count) e).0 ∙ f comma_closes))
kept_by at r t is_dash f e = ap (λ (q : State). q.pieces) (sym (some_of (is_none r.first && allowed_digits r.count) e).1)
kept_by at r t is_newline f e = go _ (allowed_digits r.count) (f newline_closes) e
  where
    go : (x : State) (u : Bool) → u ≡ false
        → cond u (Some x) (cond r.fresh (Some (before_piece (suc r.line) true r.pieces (at + 1))) None) ≡ Some t
        → t.pieces ≡ r.pieces
    go x false p e = ap (λ (q : State). q.pieces) (sym (some_of r.fresh e).1)
    go x true p e = absurd (true≢false p)
kept_by at r t is_other f e = let z : ◌≡◌ {A = ℕ} 0 1 = cc in absurd (omega arith)

step_kept : (at : ℕ) (r t : State) (b : ℕ) → (Closer b → allowed_digits r.count ≡ false) → transition at r b ≡ Some t
    → t.pieces ≡ r.pieces
step_kept at r t b f e = kept_by at r t (kind b) f (sym (transition_in at r b (kind_of b) (line-below at r t b e) refl) ∙ e)

closer_of : (b : ℕ) → (eqb b 0x2C || eqb b 0x0A) ≡ true → Closer b
closer_of b e = ⊎_elim (λ p. subst Closer (sym (eqb-true b 0x2C p)) comma_closes) (λ p. subst Closer (sym (eqb-true b 0x0A p))
    newline_closes) (either_true (eqb b 0x2C) (eqb b 0x0A) e)

closer_true : {b : ℕ} → Closer b → (eqb b 0x2C || eqb b 0x0A) ≡ true
closer_true comma_closes = refl
closer_true newline_closes = refl

module _ (c : Cursor) (at : ℕ) (r t : State) (h : Tracks c r) (b : ℕ) (e : transition at r b ≡ Some t) where
  pub closed_sets : (q : Policy) {u : Bool} → u ≡ closing b c.count → u ≡ true → SetsHold (r.pieces ++ (piece_read r ∷ [])) q
      → SetsHold t.pieces q
  unfolding closing
  closed_sets q p g s =
      let both = both_true (eqb b 0x2C || eqb b 0x0A) (allowed_digits c.count) (sym p ∙ g) in
      subst (λ (xs : List Piece). SetsHold xs q) (sym (closed-by at r t (closer_of b both.0) (ap allowed_digits (sym h.count)
      ∙ both.1) e)) s

  pub kept_sets : (q : Policy) {u : Bool} → u ≡ closing b c.count → u ≡ false → SetsHold r.pieces q → SetsHold t.pieces q
  unfolding closing
  kept_sets q p g s = subst (λ (xs : List Piece). SetsHold xs q) (sym (step_kept at r t b not-allowed e)) s
    where
      go : (x : Bool) → (true && x) ≡ false → x ≡ false
      go x e = e

      not-allowed : Closer b → allowed_digits r.count ≡ false
      not-allowed x = ap allowed_digits (sym h.count) ∙ go (allowed_digits c.count) (ap (λ (y : Bool). y && allowed_digits c.count)
          (sym (closer_true x)) ∙ sym p ∙ g)

pub spans-read : {lo : ℕ} (c : Cursor) (r : State) → Tracks c r → lo ≡ (piece_read r).first.value
    → Spans (piece_read r) c.line lo c.value
spans-read c r h e = record { line_is = sym h.line; first_is = sym e; last_is = sym h.value }

-- ---- the loop

pub record Taking (s : List ℕ) (c : Cursor) (p : Policy) (at : ℕ) : Type 0 where
  pub checking : Checking s c at
  pub sets : SetsHold checking.state.pieces p

pub take_on : {s : List ℕ} {c x : Cursor} {at : ℕ} {p q : Policy} {y : Option Cursor} (k : Taking s c p at) → at < length s
    → StepResult (transition at k.checking.state (get_or s at 0)) y → y ≡ Some x
    → ((n : ℕ) (r t : State) → Tracks c r → transition n r (get_or s at 0) ≡ Some t → SetsHold r.pieces p → SetsHold t.pieces q)
    → Taking s x q (at + 1)
take_on {s} {c} {x} {at} {p} {q} k l t e f = go refl t e
  where
    as-cursor : {a b : Cursor} → Some a ≡ Some b → a ≡ b
    as-cursor e = cc

    go : {o : Option State} {y : Option Cursor} → transition at k.checking.state (get_or s at 0) ≡ o → StepResult o y → y ≡ Some x
        → Taking s x q (at + 1)
    go w (on {q = z} h) e = record {
      checking = record {
        state = z;
        tracks = subst (λ (n : Cursor). Tracks n z) (as-cursor e) h;
        same = k.checking.same ∙ ap (run at k.checking.state) (here s at l) ∙ run_cons at k.checking.state z (get_or s at 0)
            (drop (at + 1) s) w;
        in_text = omega arith;
      };
      sets = f at k.checking.state z k.checking.tracks w k.sets;
    }
    go w stop e = let z : ◌≡◌ {A = ℕ} 0 1 = cc in absurd (omega arith)

pub take_stop : {s : List ℕ} {c : Cursor} {at : ℕ} {p : Policy} {y : Option Cursor} (k : Taking s c p at) → at < length s
    → StepResult (transition at k.checking.state (get_or s at 0)) y → y ≡ None → SetsHold (pieces_read s) p
unfolding pieces_read pieces_of
take_stop {s} {c} {at} {p} k l t e =
    subst (λ (x : RunResult). SetsHold (pieces_of x) p)
    (sym (k.checking.same ∙ ap (run at k.checking.state) (here s at l)
    ∙ run-stops at k.checking.state (get_or s at 0) (drop (at + 1) s) (go refl t e)))
    k.sets
  where
    go : {o : Option State} {y : Option Cursor} → transition at k.checking.state (get_or s at 0) ≡ o → StepResult o y → y ≡ None
        → transition at k.checking.state (get_or s at 0) ≡ None
    go w (on h) e = let z : ◌≡◌ {A = ℕ} 0 1 = cc in absurd (omega arith)
    go w stop e = w

pub take_end : {s : List ℕ} {c : Cursor} {at : ℕ} {p : Policy} (k : Taking s c p at) → length s ≤ at → SetsHold (pieces_read s) p
unfolding pieces_read pieces_of
take_end {s} {c} {at} {p} k l =
    subst (λ (x : RunResult). SetsHold (pieces_of x) p)
    (sym (k.checking.same ∙ ap (run at k.checking.state) (drop_of_length-le s l) ∙ run_nil at k.checking.state)) k.sets

pub take_begin : {c : Cursor} {p : Policy} (s : List ℕ) → Tracks c start → SetsHold [] p → Taking s c p 0
unfolding check_begin
take_begin s h g = record { checking = check_begin s h; sets = g }

-- ---- small functions

pub first_ranged_value : {p : RangeStart} (c : Cursor) (r : State) → Tracks c r → c.first ≡ Some p → p.value ≡ (piece_read r).first.value
first_ranged_value c r h e = sym (ap (λ (x : Point). x.value) (first_ranged c r h e))

pub first_single_value : (c : Cursor) (r : State) → Tracks c r → c.first ≡ None → c.value ≡ (piece_read r).first.value
first_single_value c r h e = h.value ∙ sym (ap (λ (x : Point). x.value) (first_single c r h e))

pub no_sets : (p : Policy) → Holds (λ (i : ℕ). false) p.prefer_bare.chars.bits
    → Holds (λ (i : ℕ). false) p.prefer_bare.keycap_chars.bits
    → Holds (λ (i : ℕ). false) p.bare_as_text.chars.bits → Holds (λ (i : ℕ). false) p.bare_as_text.keycap_chars.bits
    → SetsHold [] p
unfolding covered
no_sets p a b c d = record { prefer_bare_set = a; prefer_bare_keycap_set = b; bare_as_text_set = c; bare_as_text_keycap_set = d }

-- ---- the policy

-- A policy whose sets hold the pieces is the one that the pieces mean.
pub policy_of-pieces : (s : List ℕ) (p : Policy) → PolicyValue p → SetsHold (pieces_read s) p → p ≡ sheet_policy (pieces_read s)
policy_of-pieces s p v h =
    one-meaning (pieces_read s) p (sheet_policy (pieces_read s))
    (record {
      value = v;
      prefer_bare_set = h.prefer_bare_set;
      prefer_bare_keycap_set = h.prefer_bare_keycap_set;
      bare_as_text_set = h.bare_as_text_set;
      bare_as_text_keycap_set = h.bare_as_text_keycap_set;
    })
    (pieces_mean (pieces_read s))
