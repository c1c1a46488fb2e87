-- A run of the automaton from the start: its state, where it stops, and which ranges run down on the way.
use Rattle.std.specs.Prelude.{Some, None, Option}
use mathlib.Core.Path.{◌≡◌, refl, ap, sym, ◌∙◌, subst}
use mathlib.Core.Bool.{Bool, true, false, cond}
use mathlib.Core.List.{List, [], ◌∷◌, ◌++◌, append_assoc, append-nil}
use Prim.Native.Nat.{ℕ, ◌+◌, ◌<◌}
use native.Mathlib.Omega.{arith}
use lib.Dec.{ltb}
use lib.ListN.{length, length-append}
use borrow.Author.Tests.{lt-ltb, ltb-true}
use Rattle.policy_sheet.specs.Grammar.{DescendingRange, Piece}
use Rattle.policy_sheet.specs.Reader.{
  RunResult,
  State,
  first_descending,
  onward,
  piece_read,
  reached,
  run,
  start,
  transition,
  stopped,
}
use Rattle.policy_sheet.proofs.Accepts.{Runs, no_run, runs_snoc}
use Rattle.policy_sheet.proofs.Derives.{Adds, Held, adds_piece, held_start, piece_held, same_pieces, stepped}

-- ---- ranges that run down

pub down_more : (n : ℕ) (xs ys : List Piece) → first_descending xs ≡ Some n → first_descending (xs ++ ys) ≡ Some n
unfolding first_descending
down_more n [] ys e = let z : ◌≡◌ {A = ℕ} 0 1 = cc in absurd (omega arith)
down_more n (x ∷ xs) ys e = go (ltb x.last.value x.first.value) refl e (down_more n xs ys)
  where
    go : (t : Bool) → ltb x.last.value x.first.value ≡ t → cond t (Some x.first.at) (first_descending xs) ≡ Some n
        → (first_descending xs ≡ Some n → first_descending (xs ++ ys) ≡ Some n)
        → cond t (Some x.first.at) (first_descending (xs ++ ys)) ≡ Some n
    go true p e h = e
    go false p e h = h e

pub down_last : (xs ys : List Piece) → first_descending xs ≡ None → first_descending (xs ++ ys) ≡ first_descending ys
unfolding first_descending
down_last [] ys e = refl
down_last (x ∷ xs) ys e = go (ltb x.last.value x.first.value) refl e (down_last xs ys)
  where
    go : (t : Bool) → ltb x.last.value x.first.value ≡ t → cond t (Some x.first.at) (first_descending xs) ≡ None
        → (first_descending xs ≡ None → first_descending (xs ++ ys) ≡ first_descending ys)
        → cond t (Some x.first.at) (first_descending (xs ++ ys)) ≡ first_descending ys
    go true p e h = let z : ◌≡◌ {A = ℕ} 0 1 = cc in absurd (omega arith)
    go false p e h = h e

pub down_one : (x : Piece) (n : ℕ) → first_descending (x ∷ []) ≡ Some n → (x.last.value < x.first.value) × (x.first.at ≡ n)
unfolding first_descending
down_one x n e = go (ltb x.last.value x.first.value) refl e
  where
    go : (t : Bool) → ltb x.last.value x.first.value ≡ t → cond t (Some x.first.at) None ≡ Some n
        → (x.last.value < x.first.value) × (x.first.at ≡ n)
    go true p e = (ltb-true _ _ p, cc)
    go false p e = let z : ◌≡◌ {A = ℕ} 0 1 = cc in absurd (omega arith)

pub one_down : (x : Piece) → x.last.value < x.first.value → first_descending (x ∷ []) ≡ Some x.first.at
unfolding first_descending
one_down x h = rw (lt-ltb x.last.value x.first.value h)

pub widened : {s : List ℕ} {n : ℕ} (t : List ℕ) → DescendingRange s n → DescendingRange (s ++ t) n
widened {s} {n} t d = record {
  earlier = d.earlier;
  front_text = d.front_text;
  range_text = d.range_text;
  later = d.later ++ t;
  line = d.line;
  closer = d.closer;
  fresh = d.fresh;
  xs = d.xs;
  ys = d.ys;
  piece = d.piece;
  lines_before = d.lines_before;
  in_sheet = d.in_sheet;
  front = d.front;
  here = d.here;
  closed = d.closed;
  text = ap (λ (l : List ℕ). l ++ t) d.text ∙ simp append_assoc;
  descends = d.descends;
  starts = d.starts;
}

-- ---- the state of a run

pub record Going (s : List ℕ) (r : State) : Type 0 where
  pub held : Held s r
  pub runs : Runs 0 start s r
  pub found : (n : ℕ) → first_descending r.pieces ≡ Some n → DescendingRange s n

pub going_start : Going [] start
unfolding first_descending
going_start = record { held = held_start; runs = no_run; found = λ n e. let z : ◌≡◌ {A = ℕ} 0 1 = cc in absurd (omega arith) }

found-more : {s : List ℕ} {r : State} {b : ℕ} {q : State} → Going s r → r.line < 4 → Adds r b q → (n : ℕ)
    → first_descending q.pieces ≡ Some n
    → DescendingRange (s ++ (b ∷ [])) n
found-more {s} {r} {b} {q} g l (same_pieces e) n f = widened (b ∷ []) (g.found n (ap first_descending (sym e) ∙ f))
found-more {s} {r} {b} {q} g l (adds_piece c a e) n f = go (first_descending r.pieces) refl
  where
    go : (o : Option ℕ) → first_descending r.pieces ≡ o → DescendingRange (s ++ (b ∷ [])) n
    go (Some m) p =
        let y = down_more m r.pieces (piece_read r ∷ []) p in
        widened (b ∷ []) (g.found n (p ∙ cc))
    go None p =
        let h = g.held in
        let y = down_one (piece_read r) n (sym (down_last r.pieces (piece_read r ∷ []) p) ∙ ap first_descending (sym e) ∙ f) in
        record {
          earlier = h.earlier;
          front_text = h.front_text;
          range_text = h.number_text;
          later = [];
          line = r.line;
          closer = b;
          fresh = h.begun;
          xs = h.xs;
          ys = h.ys;
          piece = piece_read r;
          lines_before = h.lines_before;
          in_sheet = l;
          front = h.front;
          here = piece_held r.line h.number a;
          closed = c;
          text = ap (λ (t : List ℕ). t ++ (b ∷ [])) h.text ∙ simp append_assoc;
          descends = y.0;
          starts = y.1;
        }

pub going_step : {s : List ℕ} {r : State} (b : ℕ) (q : State) → Going s r → transition (length s) r b ≡ Some q → Going (s ++ (b ∷ [])) q
going_step {s} {r} b q g e =
    let t = stepped b q g.held e in
    record {
      held = t.held;
      runs = runs_snoc g.runs (record { goes = subst (λ (n : ℕ). transition n r b ≡ Some q) (omega arith) e });
      found = found-more g t.line t.adds;
    }

-- How a run ends.
pub data Ended (s : List ℕ) : RunResult → Type 0 where
  all_read : {r : State} → Going s r → Ended s (reached r)
  stops : {a : List ℕ} {r : State} (b : ℕ) (c : List ℕ) → Going a r → s ≡ a ++ (b ∷ c) → transition (length a) r b ≡ None
      → Ended s (stopped (length a) r)

pub ended : (t s : List ℕ) (r : State) → Going s r → Ended (s ++ t) (run (length s) r t)
unfolding run
ended [] s r g = all_read (subst (λ (l : List ℕ). Going l r) (sym (append-nil s)) g)
ended (b ∷ t) s r g = go (transition (length s) r b) refl (λ q h. ended t (s ++ (b ∷ [])) q h)
  where
    go : (o : Option State) → transition (length s) r b ≡ o
        → ((q : State) → Going (s ++ (b ∷ [])) q → Ended ((s ++ (b ∷ [])) ++ t) (run (length (s ++ (b ∷ []))) q t))
        → Ended (s ++ (b ∷ t)) (onward o (stopped (length s) r) (λ (q : State). run (length s + 1) q t))
    go None e f = stops b t g refl e
    go (Some q) e f =
        subst (λ (n : ℕ). Ended (s ++ (b ∷ t)) (run n q t)) (simp length-append (omega arith))
        (subst (λ (l : List ℕ). Ended l (run (length (s ++ (b ∷ []))) q t)) (append_assoc s (b ∷ []) t) (f q (going_step b q g e)))

pub run_ends : (s : List ℕ) → Ended s (run 0 start s)
run_ends s = ended s [] start going_start
