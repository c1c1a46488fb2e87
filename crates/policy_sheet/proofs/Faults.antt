-- Refusal 11: the result is the first fault. Without a fault the bytes are a sheet in which no range runs down.
use Rattle.std.specs.Prelude.{Some, None, Option}
use mathlib.Core.Path.{◌≡◌, refl, ap, sym, ◌∙◌, subst}
use mathlib.Core.Logic.{◌⊎◌, inl, inr, ⊎_elim}
use mathlib.Core.Bool.{Bool, true, false, cond}
use mathlib.Core.List.{List, [], ◌∷◌, ◌++◌, append_assoc, append-nil}
use Prim.Native.Nat.{ℕ, suc, ◌+◌, ◌≤◌, ◌<◌}
use native.Mathlib.Numerals.{add-one}
use native.Mathlib.Omega.{arith}
use lib.Dec.{eqb}
use lib.ListN.{drop, length, length-append, take, take-append-drop}
use lib.Seq.{take-append-add, take-append_seam, take-length, take-take}
use borrow.Author.Tests.{eqb-false, eqb-true}
use Rattle.base.proofs.Tests.{le_or_lt}
use Rattle.policy_sheet.specs.Grammar.{
  Begins,
  Closer,
  DescendingRange,
  Piece,
  PieceAt,
  Sheet,
  comma_closes,
  newline_closes,
  range,
  single,
}
use Rattle.policy_sheet.specs.Reader.{
  RunResult,
  State,
  SheetReading,
  answer_of,
  before_piece,
  descending_or,
  first_descending,
  not_a_sheet,
  onward,
  piece_read,
  pieces_of,
  reached,
  read_pieces,
  read_sheet,
  run,
  start,
  transition,
  stopped,
}
use Rattle.policy_sheet.specs.Theorems.{Fault, breaks_off, descending_range, wrong_byte}
use Rattle.policy_sheet.proofs.Accepts.{
  Runs,
  closed_by,
  front-run,
  lines-run,
  piece_run,
  run-stops,
  run_then,
  runs_and,
  runs_at,
  same-reached,
}
use Rattle.policy_sheet.proofs.Derives.{Adds, adds_piece, same_pieces, stepped}
use Rattle.policy_sheet.proofs.Runs.{Ended, Going, all_read, down_last, down_more, going_step, one_down, run_ends, stops}
use Rattle.policy_sheet.proofs.Completions.{going_begins, reached_going, sheet_held}

-- ---- a sheet is read

pub sheet_run : {s : List ℕ} {xs : List Piece} → Sheet s xs → Runs 0 start s (before_piece 4 true xs (length s))
sheet_run h = lines-run (omega arith) h

pub only-pieces : (s : List ℕ) (xs ys : List Piece) → Sheet s xs → Sheet s ys → xs ≡ ys
only-pieces s xs ys h g = ap (λ (r : State). r.pieces) (same-reached (sym (sheet_run h).goes ∙ (sheet_run g).goes))

-- ---- bytes with which no sheet begins

no_sheet : {a : List ℕ} {r : State} (b : ℕ) → Going a r → transition (length a) r b ≡ None → Begins (a ++ (b ∷ [])) → ⊥
no_sheet {a} {r} b g e h =
    let x = (sheet_run h.1.1).goes in
    let y = run_then r r 0 a [] in
    let z : run 0 start (a ++ (b ∷ h.0)) ≡ stopped (0 + length a) r
    = run_then start r 0 a (b ∷ h.0) g.runs.goes ∙ run-stops (0 + length a) r b h.0 (subst (λ (n : ℕ). transition n r b ≡ None)
    (omega arith) e) in
    differ (sym x ∙ ap (run 0 start) (append_assoc a (b ∷ []) h.0) ∙ z)
  where
    differ : {q r : State} {n : ℕ} → reached q ≡ stopped n r → ⊥
    differ e = let z : ◌≡◌ {A = ℕ} 0 1 = cc in omega arith

pub begins_take : (j : ℕ) (s : List ℕ) → Begins s → Begins (take j s)
begins_take j s h = (
  drop j s ++ h.0,
  (
    h.1.0,
    subst (λ (l : List ℕ). Sheet l h.1.0) (ap (λ (l : List ℕ). l ++ h.0) (sym (take-append-drop j s))
        ∙ append_assoc (take j s) (drop j s) h.0) h.1.1,
  ),
)

-- If some sheet begins with the first k bytes, no byte among them is wrong.
wrong_late : (k m : ℕ) (s : List ℕ) → Begins (take k s) → (Begins (take (suc m) s) → ⊥) → k ≤ m
wrong_late k m s h f =
    ⊎_elim (λ l. l)
    (λ l. absurd (f (subst Begins (take-take (suc m) k s (omega arith)) (begins_take (suc m) (take k s) h)))) (le_or_lt k m)

-- ---- ranges that run down

-- More bytes do not change which range is the first that runs down.
down_stays : (n : ℕ) (t s : List ℕ) (r : State) → Going s r → first_descending r.pieces ≡ Some n
    → first_descending (pieces_of (run (length s) r t)) ≡ Some n
unfolding run pieces_of
down_stays n [] s r g e = e
down_stays n (b ∷ t) s r g e = go (transition (length s) r b) refl (λ q h. down_stays n t (s ++ (b ∷ [])) q h)
  where
    kept : {q : State} → Adds r b q → first_descending q.pieces ≡ Some n
    kept (same_pieces p) = ap first_descending p ∙ e
    kept (adds_piece c a p) = ap first_descending p ∙ down_more n r.pieces (piece_read r ∷ []) e

    go : (o : Option State) → transition (length s) r b ≡ o
        → ((q : State) → Going (s ++ (b ∷ [])) q → first_descending q.pieces ≡ Some n
        → first_descending (pieces_of (run (length (s ++ (b ∷ []))) q t)) ≡ Some n)
        → first_descending (pieces_of (onward o (stopped (length s) r) (λ (q : State). run (length s + 1) q t))) ≡ Some n
    go None p f = e
    go (Some q) p f =
        subst (λ (k : ℕ). first_descending (pieces_of (run k q t)) ≡ Some n) (simp length-append (omega arith))
        (f q (going_step b q g p) (kept (stepped b q g.held p).adds))

piece_starts : {k at : ℕ} {u : List ℕ} {x : Piece} → PieceAt k at u x → x.first.at ≡ at
piece_starts (single p) = refl
piece_starts (range p q) = refl

pub closed-pieces : {c : ℕ} (e : Closer c) (k : ℕ) (xs : List Piece) (at : ℕ) → (closed_by e k xs at).pieces ≡ xs
closed-pieces comma_closes k xs at = refl
closed-pieces newline_closes k xs at = refl

-- A range that runs down starts before the end of the bytes.
pub down_before : {s : List ℕ} {n : ℕ} → DescendingRange s n → n < length s
down_before {s} {n} d = omega (arith, simp length-append at (ap length d.text), piece_starts d.here, d.starts)

-- If a range runs down, the first one that the automaton has read starts there or before.
pub record DownRead (s : List ℕ) (m : ℕ) : Type 0 where
  pub offset : ℕ
  pub first : first_descending (pieces_of (run 0 start s)) ≡ Some offset
  pub before : offset ≤ m

pub down_read : {s : List ℕ} {m : ℕ} → DescendingRange s m → DownRead s m
down_read {s} {m} d = go (first_descending (zs)) refl
  where
    zs : List Piece
    zs = d.xs ++ d.ys

    at : ℕ
    at = length d.earlier + length d.front_text

    to_front : Runs 0 start (d.earlier ++ d.front_text) (before_piece d.line d.fresh zs at)
    to_front = runs_and (lines-run (omega (arith, d.in_sheet)) d.lines_before) (runs_at (0 + length d.earlier) (omega arith)
        (front-run d.xs d.in_sheet d.front))

    text : List ℕ
    text = (d.earlier ++ d.front_text) ++ (d.range_text ++ (d.closer ∷ []))

    end : State
    end = closed_by d.closed d.line (zs ++ (d.piece ∷ [])) (at + length d.range_text + 1)

    to_end : Runs 0 start text end
    to_end = runs_and to_front (runs_at (0 + length (d.earlier ++ d.front_text)) (simp length-append (omega arith))
        (piece_run d.fresh zs d.closed d.in_sheet d.here))

    after : run 0 start s ≡ run (length text) end d.later
    after =
        ap (run 0 start) (d.text ∙ simp append_assoc) ∙ run_then start end 0 text d.later to_end.goes
        ∙ ap (λ (n : ℕ). run n end d.later) (omega arith)

    from_end : (n : ℕ) → first_descending (zs ++ (d.piece ∷ [])) ≡ Some n → first_descending (pieces_of (run 0 start s)) ≡ Some n
    from_end n e =
        ap (λ (x : RunResult). first_descending (pieces_of x)) after
        ∙ down_stays n d.later text end (reached_going end to_end.goes (run_ends text))
        (ap first_descending (closed-pieces d.closed d.line (zs ++ (d.piece ∷ [])) _) ∙ e)

    go : (o : Option ℕ) → first_descending zs ≡ o → DownRead s m
    go (Some n) e =
        let g = reached_going (before_piece d.line d.fresh zs at) to_front.goes (run_ends (d.earlier ++ d.front_text)) in
        let l = down_before (g.found n e) in
        record {
          offset = n;
          first = from_end n (down_more n zs (d.piece ∷ []) e);
          before = omega (arith, length-append d.earlier d.front_text, piece_starts d.here, d.starts);
        }
    go None e = record {
      offset = d.piece.first.at;
      first = from_end d.piece.first.at (down_last zs (d.piece ∷ []) e ∙ one_down d.piece d.descends);
      before = omega (arith, d.starts);
    }

-- ---- the verdict

pub data Verdict (s : List ℕ) : SheetReading → Type 0 where
  faulty : {n : ℕ} → Fault s n → ((m : ℕ) → Fault s m → n ≤ m) → Verdict s (not_a_sheet n)
  formed : {xs : List Piece} → Sheet s xs → first_descending xs ≡ None → ((m : ℕ) → Fault s m → ⊥) → Verdict s (read_pieces xs)

-- If some sheet begins with the first k bytes, a fault is at k or later, or it is a range that runs down.
late : {s : List ℕ} {m : ℕ} (k : ℕ) → k ≤ length s → Begins (take k s) → Fault s m → (k ≤ m) ⊎ DownRead s m
late {s} {m} k l h (wrong_byte p q f) = inl (wrong_late k m s h f)
late k l h (breaks_off p f) = inl l
late k l h (descending_range d) = inr (down_read d)

first_of : {n m : ℕ} {o : Option ℕ} → o ≡ Some n → o ≡ Some m → n ≡ m
first_of e f = cc

none-some : {m : ℕ} {o : Option ℕ} → o ≡ None → o ≡ Some m → ⊥
none-some e f = let z : ◌≡◌ {A = ℕ} 0 1 = cc in omega arith

module _ (s : List ℕ) (ran : RunResult) (same : run 0 start s ≡ ran) where
  -- A range ran down before the run ended.
  went_down : (n k : ℕ) → k ≤ length s → Begins (take k s) → n < k → DescendingRange s n → first_descending (pieces_of ran) ≡ Some n
      → Verdict s (not_a_sheet n)
  went_down n k l h b d e =
      faulty (descending_range d)
      (λ m f. ⊎_elim (λ p. omega arith) (λ p. let q = first_of (ap (λ (x : RunResult). first_descending (pieces_of x)) same
      ∙ e) p.first in omega arith) (late k l h f))

  -- None did, and the run ended at a fault.
  no_down : (n : ℕ) → n ≤ length s → Begins (take n s) → Fault s n → first_descending (pieces_of ran) ≡ None → Verdict s (not_a_sheet n)
  no_down n l h d e =
      faulty d (λ m f. ⊎_elim (λ p. p) (λ p. absurd (none-some (ap (λ (x : RunResult). first_descending (pieces_of x)) same
      ∙ e) p.first)) (late n l h f))

  -- None did, and it is a sheet.
  no_fault : (xs : List Piece) → Sheet s xs → first_descending (pieces_of ran) ≡ None → first_descending xs ≡ None
      → Verdict s (read_pieces xs)
  no_fault xs g e p = formed g p (λ m f. go f)
    where
      whole : Begins (take (length s) s)
      whole = subst Begins (sym (take-length s)) ([], (xs, subst (λ (l : List ℕ). Sheet l xs) (sym (append-nil s)) g))

      go : {m : ℕ} → Fault s m → ⊥
      go {m} (wrong_byte l q f) = omega (arith, wrong_late (length s) m s whole f)
      go (breaks_off q f) = f (xs, g)
      go (descending_range d) = none-some (ap (λ (x : RunResult). first_descending (pieces_of x)) same ∙ e) (down_read d).first

verdict-ended : (s : List ℕ) (ran : RunResult) → run 0 start s ≡ ran → Ended s ran → Verdict s (answer_of (length s) ran)
unfolding answer_of pieces_of
verdict-ended s ran same (stops {a} {r} b c g t e) = go (first_descending r.pieces) refl
  where
    at : take (length a) s ≡ a
    at = ap (take (length a)) t ∙ take-append_seam a (b ∷ c)

    begins : Begins (take (length a) s)
    begins = subst Begins (sym at) (going_begins g)

    in-s : length a < length s
    in-s = omega (arith, simp length-append at (ap length t))

    one_more : take (suc (length a)) s ≡ a ++ (b ∷ [])
    one_more = ap (λ (n : ℕ). take n s) (sym (add-one (length a))) ∙ ap (take (length a + 1)) t ∙ take-append-add a (b ∷ c) 1

    down-in : {n : ℕ} → DescendingRange a n → DescendingRange s n
    down-in {n} d = subst (λ (l : List ℕ). DescendingRange l n) (sym t) (Rattle.policy_sheet.proofs.Runs.widened (b ∷ c) d)

    go : (o : Option ℕ) → first_descending r.pieces ≡ o → Verdict s (descending_or o (not_a_sheet (length a)))
    go (Some n) p = went_down s (stopped (length a) r) same n (length a) (omega (arith, in-s)) begins (down_before (g.found n p))
        (down-in (g.found n p)) p
    go None p =
        no_down s (stopped (length a) r) same (length a) (omega (arith, in-s)) begins
        (wrong_byte in-s begins (λ h. no_sheet b g e (subst Begins one_more h))) p
verdict-ended s ran same (all_read {r} g) = go (first_descending r.pieces) refl
  where
    begins : Begins (take (length s) s)
    begins = subst Begins (sym (take-length s)) (going_begins g)

    at_end : (t : Bool) → eqb r.line 4 ≡ t → first_descending r.pieces ≡ None
        → Verdict s (cond t (read_pieces r.pieces) (not_a_sheet (length s)))
    at_end true e p = no_fault s (reached r) same r.pieces (sheet_held g.held (eqb-true r.line 4 e)) p p
    at_end false e p =
        no_down s (reached r) same (length s) (omega arith) begins
        (breaks_off (going_begins g) (λ h. eqb-false r.line 4 e (ap (λ (q : State). q.line) (same-reached (sym same
        ∙ (sheet_run h.1).goes))))) p

    go : (o : Option ℕ) → first_descending r.pieces ≡ o
        → Verdict s (descending_or o (cond (eqb r.line 4) (read_pieces r.pieces) (not_a_sheet (length s))))
    go (Some n) p = went_down s (reached r) same n (length s) (omega arith) begins (down_before (g.found n p)) (g.found n p) p
    go None p = at_end (eqb r.line 4) refl p

pub verdict : (s : List ℕ) → Verdict s (read_sheet s)
unfolding read_sheet
verdict s = verdict-ended s (run 0 start s) refl (run_ends s)

-- A sheet in which no range runs down is read by its pieces.
pub read_rising : {s : List ℕ} {xs : List Piece} → Sheet s xs → first_descending xs ≡ None → read_sheet s ≡ read_pieces xs
unfolding read_sheet answer_of
read_rising {s} {xs} h e = ap (answer_of (length s)) (sheet_run h).goes ∙ rw e
