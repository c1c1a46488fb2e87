-- The grammar derives the bytes that the automaton has accepted, as far as they go.
use Rattle.std.specs.Prelude.{Some, None, Option}
use mathlib.Core.Path.{◌≡◌, refl, ap, sym, ◌∙◌, subst}
use mathlib.Core.Logic.{◌⊎◌, inl, inr, ⊎_elim}
use mathlib.Core.Bool.{Bool, true, false, cond, ◌&&◌, true≢false}
use mathlib.Core.List.{List, [], ◌∷◌, ◌++◌, append_assoc, append-nil}
use Prim.Native.Nat.{ℕ, suc, ◌+◌, ◌*◌, ◌≤◌, ◌<◌}
use native.Mathlib.Omega.{arith}
use lib.Dec.{ltb}
use lib.ListN.{length, length-append}
use borrow.Author.Tests.{ltb-true}
use Rattle.base.proofs.Tests.{both_true}
use Rattle.policy_sheet.specs.Grammar.{
  Closer,
  CodePoint,
  Digits,
  Front,
  HexDigit,
  Lines,
  Piece,
  PieceAt,
  Pieces,
  Point,
  allowed_digits,
  after_comma,
  of_digits,
  comma_closes,
  digits_and,
  empty_line,
  full_line,
  line_start,
  lines_and,
  newline_closes,
  no_digits,
  no_lines,
  one_piece,
  pieces_and,
  range,
  single,
}
use Rattle.policy_sheet.specs.Reader.{
  ByteKind,
  State,
  before_piece,
  after_dash,
  is_none,
  kind_of,
  more_digits,
  or_else,
  piece_read,
  start,
  transition,
  transition_by,
}
use Rattle.policy_sheet.proofs.ByteKinds.{HasKind, is_comma, is_dash, is_digit, is_newline, is_other, kind}

-- ---- what was read

-- The piece that is not closed yet: digits, or a code point, a dash and digits.
pub data Number (at : ℕ) : List ℕ → Option Point → ℕ → ℕ → ℕ → Type 0 where
  alone : {s : List ℕ} {k v : ℕ} → Digits s k v → Number at s None at k v
  in_range : {s t : List ℕ} {w k v : ℕ} → CodePoint s w → Digits t k v
      → Number at (s ++ (0x2D ∷ t)) (Some (record { at = at; value = w })) (at + length s + 1) k v

-- If nothing of a line was read, the bytes end with the line before it.
pub data Fresh : Bool → List ℕ → List ℕ → List Piece → Type 0 where
  nothing_read : Fresh true [] [] []
  not_fresh : {u w : List ℕ} {ys : List Piece} → Fresh false u w ys

pub record Held (s : List ℕ) (r : State) : Type 0 where
  pub earlier : List ℕ
  pub front_text : List ℕ
  pub number_text : List ℕ
  pub xs : List Piece
  pub ys : List Piece
  pub begun : Bool
  pub lines_before : Lines r.line earlier xs
  pub front : Front r.line (length earlier) front_text begun ys
  pub number : Number (length earlier + length front_text) number_text r.first r.from r.count r.value
  pub fresh : Fresh r.fresh front_text number_text ys
  pub text : s ≡ earlier ++ (front_text ++ number_text)
  pub pieces : r.pieces ≡ xs ++ ys
  pub digits : r.count ≤ 6
  pub in_sheet : (r.line < 4) ⊎ ((r.line ≡ 4) × (r.fresh ≡ true))

pub held_start : Held [] start
held_start = record {
  earlier = [];
  front_text = [];
  number_text = [];
  xs = [];
  ys = [];
  begun = true;
  lines_before = no_lines;
  front = line_start;
  number = alone no_digits;
  fresh = nothing_read;
  text = refl;
  pieces = refl;
  digits = omega arith;
  in_sheet = inl (omega arith);
}

-- ---- one more byte

more-number : {at : ℕ} {s : List ℕ} {f : Option Point} {n k v b d : ℕ} → Number at s f n k v → HexDigit b d
    → Number at (s ++ (b ∷ [])) f n (suc k) (v * 16 + d)
more-number (alone ds) h = alone (digits_and ds h)
more-number {at} {b = b} {d} (in_range {s} {t} {w} {k} {v} p ds) h =
    subst (λ (l : List ℕ). Number at l (Some (record { at = at; value = w })) (at + length s + 1) (suc k) (v * 16 + d))
    (sym (append_assoc s (0x2D ∷ t) (b ∷ [])))
    (in_range p (digits_and ds h))

-- A piece that may be closed.
pub piece_held : {at : ℕ} {s : List ℕ} {f : Option Point} {n k v : ℕ} (line : ℕ) → Number at s f n k v → allowed_digits k ≡ true
    → PieceAt line at s (record { line = line; first = or_else f (record { at = n; value = v }); last = record { at = n; value = v } })
unfolding or_else
piece_held line (alone ds) a = single (of_digits ds a)
piece_held line (in_range p ds) a = range p (of_digits ds a)

-- The same with the bytes of the line before it.
pub pieces-held : {k at : ℕ} {u w : List ℕ} {f : Bool} {ys : List Piece} {x : Piece} → Front k at u f ys → PieceAt k (at + length u) w x
    → Pieces k at (u ++ w) (ys ++ (x ∷ []))
pieces-held {k} {at} {w = w} {x = x} line_start p = one_piece (subst (λ (n : ℕ). PieceAt k n w x) (omega arith) p)
pieces-held {k} {at} {w = w} {x = x} (after_comma {s} {xs = ys} h) p =
    subst (λ (l : List ℕ). Pieces k at l (ys ++ (x ∷ []))) (sym (append_assoc s (0x2C ∷ []) w))
    (pieces_and h (subst (λ (n : ℕ). PieceAt k n w x) (simp length-append (omega arith)) p))

-- The same before a dash.
dashed : {at : ℕ} {s : List ℕ} {f : Option Point} {n k v m : ℕ} → Number at s f n k v → f ≡ None → allowed_digits k ≡ true
    → at + length s + 1 ≡ m
    → Number at (s ++ (0x2D ∷ [])) (Some (record { at = n; value = v })) m 0 0
dashed {at} {s} {v = v} (alone ds) e a q = subst (λ (k : ℕ). Number at (s ++ (0x2D ∷ [])) (Some (record { at = at; value = v })) k 0 0) q
    (in_range (of_digits ds a) no_digits)
dashed (in_range p ds) e a q = let z : ◌≡◌ {A = ℕ} 0 1 = cc in absurd (omega arith)

three : (a b c : List ℕ) (x : ℕ) → (a ++ (b ++ c)) ++ (x ∷ []) ≡ a ++ (b ++ (c ++ (x ∷ [])))
three a b c x = simp append_assoc

module _ (s : List ℕ) (r : State) (h : Held s r) (l : r.line < 4) where
  held-digit : {b d : ℕ} → r.count < 6 → HexDigit b d → Held (s ++ (b ∷ [])) (more_digits r d)
  held-digit {b} {d} c x = record {
    earlier = h.earlier;
    front_text = h.front_text;
    number_text = h.number_text ++ (b ∷ []);
    xs = h.xs;
    ys = h.ys;
    begun = h.begun;
    lines_before = h.lines_before;
    front = h.front;
    number = more-number h.number x;
    fresh = not_fresh;
    text = ap (λ (t : List ℕ). t ++ (b ∷ [])) h.text ∙ three h.earlier h.front_text h.number_text b;
    pieces = h.pieces;
    digits = omega arith;
    in_sheet = inl l;
  }

  held_dash : allowed_digits r.count ≡ true → r.first ≡ None → Held (s ++ (0x2D ∷ [])) (after_dash r (length s + 1))
  held_dash a f = record {
    earlier = h.earlier;
    front_text = h.front_text;
    number_text = h.number_text ++ (0x2D ∷ []);
    xs = h.xs;
    ys = h.ys;
    begun = h.begun;
    lines_before = h.lines_before;
    front = h.front;
    number = dashed h.number f a at_is;
    fresh = not_fresh;
    text = ap (λ (t : List ℕ). t ++ (0x2D ∷ [])) h.text ∙ three h.earlier h.front_text h.number_text 0x2D;
    pieces = h.pieces;
    digits = omega arith;
    in_sheet = inl l;
  }
    where
      at_is : length h.earlier + length h.front_text + length h.number_text + 1 ≡ length s + 1
      at_is = simp (h.text, length-append) (omega arith)

  all_pieces : allowed_digits r.count ≡ true → Pieces r.line (length h.earlier) (h.front_text ++ h.number_text)
      (h.ys ++ (piece_read r ∷ []))
  all_pieces a = pieces-held h.front (piece_held r.line h.number a)

  with_piece : r.pieces ++ (piece_read r ∷ []) ≡ h.xs ++ (h.ys ++ (piece_read r ∷ []))
  with_piece = ap (λ (t : List Piece). t ++ (piece_read r ∷ [])) h.pieces ∙ append_assoc h.xs h.ys (piece_read r ∷ [])

  held_comma : allowed_digits r.count ≡ true → Held (s ++ (0x2C ∷ [])) (before_piece r.line false (r.pieces ++ (piece_read r ∷ []))
      (length s + 1))
  held_comma a = record {
    earlier = h.earlier;
    front_text = (h.front_text ++ h.number_text) ++ (0x2C ∷ []);
    number_text = [];
    xs = h.xs;
    ys = h.ys ++ (piece_read r ∷ []);
    begun = false;
    lines_before = h.lines_before;
    front = after_comma (all_pieces a);
    number = subst (λ (k : ℕ). Number (length h.earlier + length ((h.front_text ++ h.number_text) ++ (0x2C ∷ []))) [] None k 0 0)
        at_is (alone no_digits);
    fresh = not_fresh;
    text = ap (λ (t : List ℕ). t ++ (0x2C ∷ [])) h.text ∙ simp (append_assoc, append-nil);
    pieces = with_piece;
    digits = omega arith;
    in_sheet = inl l;
  }
    where
      at_is : length h.earlier + length ((h.front_text ++ h.number_text) ++ (0x2C ∷ [])) ≡ length s + 1
      at_is = simp (h.text, length-append) (omega arith)

  -- After 0A.
  held-line : {t : List ℕ} {xs ys : List Piece} → Lines (suc r.line) t xs → t ≡ s ++ (0x0A ∷ []) → ys ≡ xs
      → Held (s ++ (0x0A ∷ [])) (before_piece (suc r.line) true ys (length s + 1))
  held-line {t} {xs} {ys} g e p = record {
    earlier = t;
    front_text = [];
    number_text = [];
    xs = xs;
    ys = [];
    begun = true;
    lines_before = g;
    front = line_start;
    number = subst (λ (k : ℕ). Number (length t + 0) [] None k 0 0) at_is (alone no_digits);
    fresh = nothing_read;
    text = sym e ∙ sym (append-nil t);
    pieces = p ∙ sym (append-nil xs);
    digits = omega arith;
    in_sheet = four;
  }
    where
      at_is : length t + 0 ≡ length s + 1
      at_is = omega (arith, ap length e, length-append s (0x0A ∷ []))

      four : (suc r.line < 4) ⊎ ((suc r.line ≡ 4) × (true ≡ true))
      four = ⊎_elim (λ q. inl q) (λ q. inr (omega arith, refl)) (Rattle.base.proofs.Tests.le_or_lt (suc (suc r.line)) 4)

  held_full : allowed_digits r.count ≡ true
      → Held (s ++ (0x0A ∷ [])) (before_piece (suc r.line) true (r.pieces ++ (piece_read r ∷ [])) (length s + 1))
  held_full a =
      held-line (lines_and h.lines_before (full_line (all_pieces a)))
      (sym (ap (λ (t : List ℕ). t ++ (0x0A ∷ [])) h.text ∙ append_assoc h.earlier (h.front_text ++ h.number_text) (0x0A ∷ [])))
      with_piece

  held-empty : r.fresh ≡ true → Held (s ++ (0x0A ∷ [])) (before_piece (suc r.line) true r.pieces (length s + 1))
  held-empty e = go h.fresh e h.text h.pieces
    where
      go : {f : Bool} {u w : List ℕ} {ys : List Piece} → Fresh f u w ys → f ≡ true → s ≡ h.earlier ++ (u ++ w) → r.pieces ≡ h.xs ++ ys
          → Held (s ++ (0x0A ∷ [])) (before_piece (suc r.line) true r.pieces (length s + 1))
      go nothing_read e tx px =
          held-line (lines_and h.lines_before empty_line) (ap (λ (t : List ℕ). t ++ (0x0A ∷ [])) (sym (append-nil h.earlier)
          ∙ sym tx)) px
      go not_fresh e tx px = absurd (true≢false (sym e))

-- ---- a transition

-- The pieces after a byte: the same, or one more.
pub data Adds (r : State) (b : ℕ) (q : State) : Type 0 where
  same_pieces : q.pieces ≡ r.pieces → Adds r b q
  adds_piece : Closer b → allowed_digits r.count ≡ true → q.pieces ≡ r.pieces ++ (piece_read r ∷ []) → Adds r b q

pub record Stepped (s : List ℕ) (r : State) (b : ℕ) (q : State) : Type 0 where
  pub line : r.line < 4
  pub held : Held (s ++ (b ∷ [])) q
  pub adds : Adds r b q

abbrev when : Bool → State → Option State → Option State
when t x y = cond t (Some x) y

taken : {x q : State} (t : Bool) → when t x None ≡ Some q → (t ≡ true) × (x ≡ q)
taken true e = (refl, cc)
taken false e = let z : ◌≡◌ {A = ℕ} 0 1 = cc in absurd (omega arith)

taken-either : {x y q : State} (t u : Bool) → when t x (when u y None) ≡ Some q → ((t ≡ true) × (x ≡ q)) ⊎ ((u ≡ true) × (y ≡ q))
taken-either true u e = inl (refl, cc)
taken-either false u e = inr (taken u e)

is_none_lem : (o : Option Point) → is_none o ≡ true → o ≡ None
unfolding is_none
is_none_lem None e = refl
is_none_lem (Some x) e = absurd (true≢false (sym e))

module _ (s : List ℕ) (r : State) (h : Held s r) (l : r.line < 4) where
  stepped_as : {b : ℕ} {x q : State} → x ≡ q → Held (s ++ (b ∷ [])) x → Adds r b x → Stepped s r b q
  stepped_as {b} e g a = record {
    line = l;
    held = subst (λ (z : State). Held (s ++ (b ∷ [])) z) e g;
    adds = subst (λ (z : State). Adds r b z) e a;
  }

  by_kind : {b : ℕ} {k : ByteKind} {q : State} → HasKind b k → transition_by (length s) r k ≡ Some q → Stepped s r b q
  unfolding transition_by
  by_kind (is_digit x) e =
      let t = taken (ltb r.count 6) e in
      stepped_as t.1 (held-digit s r h l (ltb-true r.count 6 t.0) x) (same_pieces refl)
  by_kind is_comma e =
      let t = taken (allowed_digits r.count) e in
      stepped_as t.1 (held_comma s r h l t.0) (adds_piece comma_closes t.0 refl)
  by_kind is_dash e =
      let t = taken (is_none r.first && allowed_digits r.count) e in
      let u = both_true (is_none r.first) (allowed_digits r.count) t.0 in
      stepped_as t.1 (held_dash s r h l u.1 (is_none_lem r.first u.0)) (same_pieces refl)
  by_kind is_newline e =
      ⊎_elim (λ t. stepped_as t.1 (held_full s r h l t.0) (adds_piece newline_closes t.0 refl))
      (λ t. stepped_as t.1 (held-empty s r h l t.0) (same_pieces refl)) (taken-either (allowed_digits r.count) r.fresh e)
  by_kind is_other e = let z : ◌≡◌ {A = ℕ} 0 1 = cc in absurd (omega arith)

pub stepped : {s : List ℕ} {r : State} (b : ℕ) (q : State) → Held s r → transition (length s) r b ≡ Some q → Stepped s r b q
unfolding transition
stepped {s} {r} b q h e = go (ltb r.line 4) refl e
  where
    go : (t : Bool) → ltb r.line 4 ≡ t → cond t (transition_by (length s) r (kind_of b)) None ≡ Some q → Stepped s r b q
    go true p e = by_kind s r h (ltb-true r.line 4 p) (kind b) e
    go false p e = let z : ◌≡◌ {A = ℕ} 0 1 = cc in absurd (omega arith)
