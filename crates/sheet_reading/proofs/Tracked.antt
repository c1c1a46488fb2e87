-- The cursor of the code tracks the state of the automaton.
use Rattle.std.specs.Bool.{then_some}
use Rattle.std.specs.Option.{option_or}
use Rattle.std.specs.Prelude.{Some, None, Option}
use mathlib.Core.Path.{◌≡◌, refl, ap, ap₂, sym, ◌∙◌, subst}
use mathlib.Core.Bool.{Bool, true, false, cond, not, ◌&&◌}
use mathlib.Core.Logic.{⊎_elim}
use mathlib.Core.List.{List, [], ◌∷◌, ◌++◌}
use Prim.Native.Nat.{ℕ, zero, suc, ◌+◌, ◌-◌, ◌*◌, ◌%◌, ◌^◌, ◌≤◌, ◌<◌}
use native.Mathlib.Nat.{pow-suc}
use native.Mathlib.Omega.{arith}
use lib.Dec.{ltb}
use borrow.Author.Tests.{le-ltb, lt-ltb, ne_eqb}
use Rattle.base.specs.Ranges.{within}
use Rattle.base.proofs.Tests.{le_or_lt, within-above, within-below, within_true}
use Rattle.emoji.specs.Unicode.{has_variation_sequence}
use Rattle.policy_sheet.specs.Grammar.{Piece, Point, allowed_digits}
use Rattle.policy_sheet.specs.Reader.{
  ByteKind,
  State,
  before_piece,
  after_dash,
  comma,
  dash,
  digit,
  first_descending,
  first_non_entry,
  is_none,
  kind_of,
  more_digits,
  newline,
  number_read,
  or_else,
  other,
  piece_read,
  transition,
  transition_by,
}
use Rattle.sheet_reading.specs.Tracking.{Tracks, StepResult, first_point, found, on, or_found, stop}
use Rattle.policy_sheet.proofs.Accepts.{transition_in}
use Rattle.sheet_reading.specs.declared.cursor.Cursor.{Cursor}
use Rattle.sheet_reading.specs.declared.cursor.RangeStart.{RangeStart}

-- ---- bytes

pub digit_byte : (b : ℕ) → 0x30 ≤ b → b ≤ 0x39 → kind_of b ≡ digit (b - 0x30)
unfolding kind_of
digit_byte b l h = rw (within_true 0x30 0x39 b l h)

pub letter_byte : (b : ℕ) → 0x41 ≤ b → b ≤ 0x46 → kind_of b ≡ digit (b - 0x37)
unfolding kind_of
letter_byte b l h = rw (within-above 0x30 0x39 b (omega arith), within_true 0x41 0x46 b l h)

out_of : (lo hi b : ℕ) → (lo ≤ b → b ≤ hi → ⊥) → within lo hi b ≡ false
out_of lo hi b f =
    ⊎_elim (λ p. ⊎_elim (λ q. absurd (f p q)) (λ q. within-above lo hi b q) (le_or_lt b hi)) (λ q. within-below lo hi b q) (le_or_lt lo b)

pub other_byte : (b : ℕ) → (0x30 ≤ b → b ≤ 0x39 → ⊥) → (0x41 ≤ b → b ≤ 0x46 → ⊥) → (b ≡ 0x2C → ⊥) → (b ≡ 0x2D → ⊥) → (b ≡ 0x0A → ⊥)
    → kind_of b ≡ other
unfolding kind_of
other_byte b f g h i j =
    rw (out_of 0x30 0x39 b f, out_of 0x41 0x46 b g, ne_eqb b 0x2C h, ne_eqb b 0x2D i, ne_eqb b 0x0A j)

-- ---- offsets

pub or_is : (o : Option ℕ) (t : Bool) (n : ℕ) → option_or o (then_some t n) ≡ or_found o (found t n)
unfolding found or_found
or_is (Some k) t n = refl
or_is None true n = refl
or_is None false n = refl

twice : (t : Bool) (n : ℕ) → found t n ≡ or_found (found t n) (found t n)
unfolding found or_found
twice true n = refl
twice false n = refl

or_none : (o : Option ℕ) → or_found o None ≡ o
unfolding or_found
or_none None = refl
or_none (Some n) = refl

or_or : (a b c : Option ℕ) → or_found (or_found a b) c ≡ or_found a (or_found b c)
unfolding or_found
or_or None b c = refl
or_or (Some n) b c = refl

cond_found : (t : Bool) (n : ℕ) → cond t (Some n) None ≡ found t n
unfolding found
cond_found true n = refl
cond_found false n = refl

-- ---- pieces one after the other

down_snoc : (xs : List Piece) (x : Piece) → first_descending (xs ++ (x ∷ [])) ≡ or_found (first_descending xs)
    (found (ltb x.last.value x.first.value) x.first.at)
unfolding first_descending or_found
down_snoc [] x = cond_found (ltb x.last.value x.first.value) x.first.at
down_snoc (y ∷ xs) x = go _ (ltb y.last.value y.first.value) (down_snoc xs x)
  where
    go : {a : Option ℕ} (o : Option ℕ) (t : Bool) → a ≡ or_found (first_descending xs) o
        → cond t (Some y.first.at) a ≡ or_found (cond t (Some y.first.at) (first_descending xs)) o
    go o true e = refl
    go o false e = e

other-one : (x : Piece) → first_non_entry (x ∷ []) ≡ or_found (found (not (has_variation_sequence x.first.value)) x.first.at)
    (found (not (has_variation_sequence x.last.value)) x.last.at)
unfolding first_non_entry or_found found
other-one x = go (has_variation_sequence x.first.value) (has_variation_sequence x.last.value)
  where
    go : (t u : Bool) → cond t (cond u None (Some x.last.at)) (Some x.first.at) ≡ or_found (found (not t) x.first.at)
        (found (not u) x.last.at)
    go true true = refl
    go true false = refl
    go false u = refl

other_snoc : (xs : List Piece) (x : Piece) → first_non_entry (xs ++ (x ∷ [])) ≡ or_found (first_non_entry xs) (first_non_entry (x ∷ []))
unfolding first_non_entry or_found
other_snoc [] x = refl
other_snoc (y ∷ xs) x = go _ (has_variation_sequence y.first.value) (has_variation_sequence y.last.value) (other_snoc xs x)
  where
    go : {a : Option ℕ} (o : Option ℕ) (t u : Bool) → a ≡ or_found (first_non_entry xs) o
        → cond t (cond u a (Some y.last.at)) (Some y.first.at) ≡ or_found (cond t (cond u (first_non_entry xs) (Some y.last.at))
        (Some y.first.at)) o
    go o true true e = e
    go o true false e = refl
    go o false u e = refl

-- ---- cursors

pow_five : (k : ℕ) → k < 6 → 16 ^ k ≤ 0x100000
pow_five zero h = omega arith
pow_five (suc zero) h = omega arith
pow_five (suc (suc zero)) h = omega arith
pow_five (suc (suc (suc zero))) h = omega arith
pow_five (suc (suc (suc (suc zero)))) h = omega arith
pow_five (suc (suc (suc (suc (suc zero))))) h = omega arith
pow_five (suc (suc (suc (suc (suc (suc k)))))) h = absurd (omega arith)

pub before_tracks : (line next : ℕ) (fresh : Bool) (descending stray : Option ℕ) (xs : List Piece)
    → descending ≡ first_descending xs → stray ≡ first_non_entry xs
    → Tracks (record {
      line = line;
      fresh = fresh;
      first = None;
      from = next;
      count = 0;
      value = 0;
      descending = descending;
      stray = stray;
    })
    (before_piece line fresh xs next)
unfolding first_point
before_tracks line next fresh descending stray xs p q = record {
  line = refl;
  fresh = refl;
  first = refl;
  from = refl;
  count = refl;
  value = refl;
  descending = p;
  stray = q;
  digits = omega arith;
  small = omega arith;
}

pub dash_tracks : (c : Cursor) (next : ℕ) (r : State) → Tracks c r
    → Tracks (record {
      line = c.line;
      fresh = false;
      first = Some (record { at = c.from; value = c.value });
      from = next;
      count = 0;
      value = 0;
      descending = c.descending;
      stray = c.stray;
    })
    (after_dash r next)
unfolding first_point
dash_tracks c next r h = record {
  line = h.line;
  fresh = refl;
  first = ap₂ (λ (a v : ℕ). Some (record { at = a; value = v })) h.from h.value;
  from = refl;
  count = refl;
  value = refl;
  descending = h.descending;
  stray = h.stray;
  digits = omega arith;
  small = omega arith;
}

pub digit_tracks : (c : Cursor) (d : ℕ) → c.count < 6 → d < 16 → (r : State) → Tracks c r
    → Tracks (record {
      line = c.line;
      fresh = false;
      first = c.first;
      from = c.from;
      count = c.count + 1;
      value = c.value % 0x100000 * 16 + d;
      descending = c.descending;
      stray = c.stray;
    })
    (more_digits r d)
digit_tracks c d k l r h =
    let n = h.count in
    let v = h.value in
    let s = h.small in
    let p = pow_five r.count (omega arith) in
    record {
      line = h.line;
      fresh = refl;
      first = h.first;
      from = h.from;
      count = omega arith;
      value = omega arith;
      descending = h.descending;
      stray = h.stray;
      digits = omega arith;
      small = omega (arith, pow-suc 16 r.count);
    }

-- ---- a piece that is closed

module _ (c : Cursor) (r : State) (h : Tracks c r) where
  pub first_ranged : {p : RangeStart} → c.first ≡ Some p → (piece_read r).first ≡ record { at = p.at; value = p.value }
  unfolding or_else first_point
  first_ranged e =
      ap (λ (o : Option Point). or_else o (number_read r)) (sym h.first)
      ∙ ap (λ (o : Option RangeStart). or_else (first_point o) (number_read r)) e

  pub first_single : c.first ≡ None → (piece_read r).first ≡ number_read r
  unfolding or_else first_point
  first_single e =
      ap (λ (o : Option Point). or_else o (number_read r)) (sym h.first)
      ∙ ap (λ (o : Option RangeStart). or_else (first_point o) (number_read r)) e

  pub down_ranged : {o : Option ℕ} {p : RangeStart} → c.first ≡ Some p
      → o ≡ or_found c.descending (found (ltb c.value p.value) p.at)
      → o ≡ first_descending (r.pieces ++ (piece_read r ∷ []))
  down_ranged {p = p} e q =
      q ∙ ap₂ (λ (a : Option ℕ) (x : Point). or_found a (found (ltb c.value x.value) x.at)) h.descending (sym (first_ranged e))
      ∙ ap (λ (v : ℕ). or_found (first_descending r.pieces) (found (ltb v (piece_read r).first.value) (piece_read r).first.at))
      h.value
      ∙ sym (down_snoc r.pieces (piece_read r))

  pub down_single : c.first ≡ None → c.descending ≡ first_descending (r.pieces ++ (piece_read r ∷ []))
  unfolding found
  down_single e =
      h.descending ∙ sym (or_none (first_descending r.pieces))
      ∙ ap (λ (t : Bool). or_found (first_descending r.pieces) (found t (piece_read r).first.at))
      (sym (ap (λ (x : Point). ltb r.value x.value) (first_single e) ∙ le-ltb r.value r.value (omega arith)))
      ∙ sym (down_snoc r.pieces (piece_read r))

  pub other_ranged : {o a : Option ℕ} {t u : Bool} {p : RangeStart} → c.first ≡ Some p → t ≡ not (has_variation_sequence p.value)
      → u ≡ not (has_variation_sequence c.value) → a ≡ or_found c.stray (found t p.at)
      → o ≡ or_found a (found u c.from)
      → o ≡ first_non_entry (r.pieces ++ (piece_read r ∷ []))
  other_ranged {a = a} {p = p} e i j f g =
      let q = f ∙ ap (λ (t : Bool). or_found c.stray (found t p.at)) i in
      g ∙ ap (λ (t : Bool). or_found a (found t c.from)) j
      ∙ ap (λ (x : Option ℕ). or_found x (found (not (has_variation_sequence c.value)) c.from)) q
      ∙ or_or c.stray _ _
      ∙ ap₂ (λ (a : Option ℕ) (x : Point). or_found a (or_found (found (not (has_variation_sequence x.value)) x.at)
      (found (not (has_variation_sequence c.value)) c.from))) h.stray (sym (first_ranged e))
      ∙ ap₂ (λ (v n : ℕ). or_found (first_non_entry r.pieces) (or_found (found (not (has_variation_sequence (piece_read r).first.value))
      (piece_read r).first.at) (found (not (has_variation_sequence v)) n))) h.value h.from
      ∙ sym (other_snoc r.pieces (piece_read r) ∙ ap (or_found (first_non_entry r.pieces)) (other-one (piece_read r)))

  pub other_single : {o : Option ℕ} {u : Bool} → c.first ≡ None → u ≡ not (has_variation_sequence c.value)
      → o ≡ or_found c.stray (found u c.from) → o ≡ first_non_entry (r.pieces ++ (piece_read r ∷ []))
  other_single e j g =
      g ∙ ap (λ (t : Bool). or_found c.stray (found t c.from)) j
      ∙ ap (λ (a : Option ℕ). or_found a (found (not (has_variation_sequence c.value)) c.from)) h.stray
      ∙ ap₂ (λ (v n : ℕ). or_found (first_non_entry r.pieces) (found (not (has_variation_sequence v)) n)) h.value h.from
      ∙ ap (or_found (first_non_entry r.pieces)) (twice (not (has_variation_sequence r.value)) r.from)
      ∙ ap (λ (x : Point). or_found (first_non_entry r.pieces) (or_found (found (not (has_variation_sequence x.value)) x.at)
      (found (not (has_variation_sequence r.value)) r.from))) (sym (first_single e))
      ∙ sym (other_snoc r.pieces (piece_read r) ∙ ap (or_found (first_non_entry r.pieces)) (other-one (piece_read r)))

-- ---- steps

pub result-on : {q : State} {x : Cursor} (t : Bool) → t ≡ true → Tracks x q → StepResult (cond t (Some q) None) (Some x)
result-on true e h = on h
result-on false e h = let z : ◌≡◌ {A = ℕ} 0 1 = cc in absurd (omega arith)

pub result_stop : (q : State) (t : Bool) → t ≡ false → StepResult (cond t (Some q) None) None
result_stop q false e = stop
result_stop q true e = let z : ◌≡◌ {A = ℕ} 0 1 = cc in absurd (omega arith)

pub result_else : {o : Option State} {x : Option Cursor} (q : State) (t : Bool) → t ≡ false → StepResult o x
    → StepResult (cond t (Some q) o) x
result_else q false e h = h
result_else q true e h = let z : ◌≡◌ {A = ℕ} 0 1 = cc in absurd (omega arith)

result-some : {q : State} {x : Cursor} (o : Option State) (t : Bool) → t ≡ true → Tracks x q → StepResult (cond t (Some q) o) (Some x)
result-some o true e h = on h
result-some o false e h = let z : ◌≡◌ {A = ℕ} 0 1 = cc in absurd (omega arith)

module _ (c : Cursor) (at : ℕ) (r : State) (h : Tracks c r) where
  pub digit-on : {x : Cursor} (d : ℕ) → c.count < 6 → Tracks x (more_digits r d) → StepResult (transition_by at r (digit d)) (Some x)
  unfolding transition_by
  digit-on d l g = result-on (ltb r.count 6) (lt-ltb r.count 6 (subst (λ (n : ℕ). n < 6) h.count l)) g

  pub digit_stop : (d : ℕ) → 6 ≤ c.count → StepResult (transition_by at r (digit d)) None
  unfolding transition_by
  digit_stop d l = result_stop (more_digits r d) (ltb r.count 6) (le-ltb r.count 6 (subst (λ (n : ℕ). 6 ≤ n) h.count l))

  allowed_as : {t u : Bool} → t ≡ allowed_digits c.count → t ≡ u → allowed_digits r.count ≡ u
  allowed_as e f = ap allowed_digits (sym h.count) ∙ sym e ∙ f

  pub comma_on : {x : Cursor} {t : Bool} {line next : ℕ} → t ≡ allowed_digits c.count → t ≡ true → next ≡ at + 1 → line ≡ c.line
      → Tracks x (before_piece line false (r.pieces ++ (piece_read r ∷ [])) next) → StepResult (transition_by at r comma) (Some x)
  unfolding transition_by
  comma_on {x} {t} {line} {next} e f n l g =
      result-on (allowed_digits r.count) (allowed_as e f)
      (subst (λ (m : ℕ). Tracks x (before_piece m false (r.pieces ++ (piece_read r ∷ [])) (at + 1))) (l ∙ h.line)
      (subst (λ (m : ℕ). Tracks x (before_piece line false (r.pieces ++ (piece_read r ∷ [])) m)) n g))

  pub comma_stop : {t : Bool} → t ≡ allowed_digits c.count → t ≡ false → StepResult (transition_by at r comma) None
  unfolding transition_by
  comma_stop e f = result_stop _ (allowed_digits r.count) (allowed_as e f)

  some_first : {p : RangeStart} → c.first ≡ Some p → is_none r.first ≡ false
  unfolding is_none first_point
  some_first e = ap is_none (sym h.first) ∙ ap (λ (o : Option RangeStart). is_none (first_point o)) e

  none_first : c.first ≡ None → is_none r.first ≡ true
  unfolding is_none first_point
  none_first e = ap is_none (sym h.first) ∙ ap (λ (o : Option RangeStart). is_none (first_point o)) e

  pub dash_ranged : {p : RangeStart} → c.first ≡ Some p → StepResult (transition_by at r dash) None
  unfolding transition_by
  dash_ranged e = result_stop _ (is_none r.first && allowed_digits r.count) (ap (λ (t : Bool). t && allowed_digits r.count)
      (some_first e))

  pub dash_on : {x : Cursor} {t : Bool} {next : ℕ} → c.first ≡ None → t ≡ allowed_digits c.count → t ≡ true → next ≡ at + 1
      → Tracks x (after_dash r next)
      → StepResult (transition_by at r dash) (Some x)
  unfolding transition_by
  dash_on {x} d e f n g =
      result-on (is_none r.first && allowed_digits r.count) (ap₂ ◌&&◌ (none_first d) (allowed_as e f))
      (subst (λ (m : ℕ). Tracks x (after_dash r m)) n g)

  pub dash_stop : {t : Bool} → c.first ≡ None → t ≡ allowed_digits c.count → t ≡ false → StepResult (transition_by at r dash) None
  unfolding transition_by
  dash_stop d e f = result_stop _ (is_none r.first && allowed_digits r.count) (ap₂ ◌&&◌ (none_first d) (allowed_as e f))

  pub newline_on : {x : Cursor} {t : Bool} {line next : ℕ} → t ≡ allowed_digits c.count → t ≡ true → next ≡ at + 1 → line ≡ c.line + 1
      → Tracks x (before_piece line true (r.pieces ++ (piece_read r ∷ [])) next) → StepResult (transition_by at r newline) (Some x)
  unfolding transition_by
  newline_on {x} {t} {line} {next} e f n l g =
      let i : line ≡ suc r.line = let j = h.line in omega arith in
      result-some _ (allowed_digits r.count) (allowed_as e f)
      (subst (λ (m : ℕ). Tracks x (before_piece m true (r.pieces ++ (piece_read r ∷ [])) (at + 1))) i
      (subst (λ (m : ℕ). Tracks x (before_piece line true (r.pieces ++ (piece_read r ∷ [])) m)) n g))

  pub newline_empty : {x : Cursor} {t : Bool} {line next : ℕ} → t ≡ allowed_digits c.count → t ≡ false → c.fresh ≡ true
      → next ≡ at + 1 → line ≡ c.line + 1
      → Tracks x (before_piece line true r.pieces next) → StepResult (transition_by at r newline) (Some x)
  unfolding transition_by
  newline_empty {x} {t} {line} {next} e f d n l g =
      let i : line ≡ suc r.line = let j = h.line in omega arith in
      result_else _ (allowed_digits r.count) (allowed_as e f)
      (result-on r.fresh (sym h.fresh ∙ d)
      (subst (λ (m : ℕ). Tracks x (before_piece m true r.pieces (at + 1))) i
      (subst (λ (m : ℕ). Tracks x (before_piece line true r.pieces m)) n g)))

  pub newline_stop : {t : Bool} → t ≡ allowed_digits c.count → t ≡ false → c.fresh ≡ false → StepResult (transition_by at r newline) None
  unfolding transition_by
  newline_stop e f d = result_else _ (allowed_digits r.count) (allowed_as e f) (result_stop _ r.fresh (sym h.fresh ∙ d))

  pub past-lines : (b : ℕ) → 4 ≤ c.line → StepResult (transition at r b) None
  unfolding transition
  past-lines b l = subst (λ (t : Bool). StepResult (cond t (transition_by at r (kind_of b)) None) None)
      (sym (le-ltb r.line 4 (subst (λ (n : ℕ). 4 ≤ n) h.line l))) stop

  pub in_lines : {x : Option Cursor} {k : ByteKind} (b : ℕ) → c.line < 4 → kind_of b ≡ k → StepResult (transition_by at r k) x
      → StepResult (transition at r b) x
  in_lines {x} {k} b l e g = subst (λ (o : Option State). StepResult o x)
      (sym (transition_in at r b k (subst (λ (n : ℕ). n < 4) h.line l) e)) g

pub other_stop : (at : ℕ) (r : State) → StepResult (transition_by at r other) None
unfolding transition_by
other_stop at r = stop
