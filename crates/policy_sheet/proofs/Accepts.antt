-- The reader's automaton accepts what the grammar derives.
use Rattle.std.specs.Prelude.{Some, None, Option}
use mathlib.Core.Path.{◌≡◌, refl, ap, ap₂, sym, ◌∙◌, subst}
use mathlib.Core.Bool.{Bool, true, false}
use mathlib.Core.List.{List, [], ◌∷◌, ◌++◌, append_assoc, append-nil}
use Prim.Native.Nat.{ℕ, zero, suc, ◌+◌, ◌≤◌, ◌<◌}
use native.Mathlib.Omega.{arith}
use lib.Dec.{eqb}
use lib.ListN.{length, length-append}
use borrow.Author.Tests.{lt-ltb, eqb-true}
use Rattle.base.specs.Ranges.{within}
use Rattle.base.proofs.Tests.{either_true, within_in}
use mathlib.Core.Logic.{⊎_elim}
use Rattle.policy_sheet.specs.Grammar.{
  Closer,
  CodePoint,
  Digits,
  Front,
  HexDigit,
  Line,
  Lines,
  Piece,
  PieceAt,
  Pieces,
  allowed_digits,
  after_comma,
  of_digits,
  comma_closes,
  digits_and,
  empty_line,
  full_line,
  line_start,
  lines_and,
  newline_closes,
  no_digits,
  no_lines,
  one_piece,
  pieces_and,
  range,
  single,
}
use Rattle.policy_sheet.specs.Reader.{
  ByteKind,
  State,
  before_piece,
  after_dash,
  comma,
  dash,
  digit,
  is_none,
  kind_of,
  more_digits,
  newline,
  onward,
  or_else,
  piece_read,
  reached,
  run,
  start,
  transition,
  transition_by,
  stopped,
}
use Rattle.policy_sheet.proofs.ByteKinds.{comma_kind, dash_kind, digit-kind, newline_kind}

-- ---- runs of the automaton one after the other

pub record Steps (at : ℕ) (r : State) (b : ℕ) (q : State) : Type 0 where
  pub goes : transition at r b ≡ Some q

pub record Runs (at : ℕ) (r : State) (s : List ℕ) (q : State) : Type 0 where
  pub goes : run at r s ≡ reached q

pub run_cons : (at : ℕ) (r q : State) (b : ℕ) (s : List ℕ) → transition at r b ≡ Some q → run at r (b ∷ s) ≡ run (at + 1) q s
unfolding run
run_cons at r q b s e = ap (λ (o : Option State). onward o (stopped at r) (λ (q : State). run (at + 1) q s)) e

pub run-stops : (at : ℕ) (r : State) (b : ℕ) (s : List ℕ) → transition at r b ≡ None → run at r (b ∷ s) ≡ stopped at r
unfolding run
run-stops at r b s e = ap (λ (o : Option State). onward o (stopped at r) (λ (q : State). run (at + 1) q s)) e

pub run_nil : (at : ℕ) (r : State) → run at r [] ≡ reached r
unfolding run
run_nil at r = refl

pub same-reached : {x y : State} → reached x ≡ reached y → x ≡ y
same-reached e = cc

pub run_then : (r q : State) (at : ℕ) (s t : List ℕ) → run at r s ≡ reached q → run at r (s ++ t) ≡ run (at + length s) q t
unfolding run
run_then r q at [] t e = ap₂ (λ (n : ℕ) (x : State). run n x t) (omega arith) (same-reached e)
run_then r q at (b ∷ s) t e = go (transition at r b) refl e (λ x f. run_then x q (at + 1) s t f)
  where
    go : (o : Option State) → transition at r b ≡ o → onward o (stopped at r) (λ (x : State). run (at + 1) x s) ≡ reached q
        → ((x : State) → run (at + 1) x s ≡ reached q → run (at + 1) x (s ++ t) ≡ run (at + 1 + length s) q t)
        → run at r (b ∷ (s ++ t)) ≡ run (at + length (b ∷ s)) q t
    go None e f h = let z : ◌≡◌ {A = ℕ} 0 1 = cc in absurd (omega arith)
    go (Some x) e f h = run_cons at r x b (s ++ t) e ∙ h x f ∙ ap (λ (n : ℕ). run n q t) (omega arith)

pub no_run : {at : ℕ} {r : State} → Runs at r [] r
no_run {at} {r} = record { goes = run_nil at r }

pub runs_snoc : {at b : ℕ} {r q z : State} {s : List ℕ} → Runs at r s q → Steps (at + length s) q b z → Runs at r (s ++ (b ∷ [])) z
runs_snoc {at} {b} {r} {q} {z} {s} h g = record {
  goes = run_then r q at s (b ∷ []) h.goes ∙ run_cons (at + length s) q z b [] g.goes ∙ run_nil (at + length s + 1) z;
}

pub runs_and : {at : ℕ} {r q z : State} {s t : List ℕ} → Runs at r s q → Runs (at + length s) q t z → Runs at r (s ++ t) z
runs_and {at} {r} {q} {z} {s} {t} h g = record { goes = run_then r q at s t h.goes ∙ g.goes }

pub runs_by : {at b : ℕ} {r q y z : State} {s t : List ℕ} → Runs at r s q → Steps (at + length s) q b y → Runs (at + length s + 1) y t z
    → Runs at r (s ++ (b ∷ t)) z
runs_by {at} {b} {r} {q} {y} {z} {s} {t} h g f = record {
  goes = run_then r q at s (b ∷ t) h.goes ∙ run_cons (at + length s) q y b t g.goes ∙ f.goes;
}

-- ---- a transition

pub transition_in : (at : ℕ) (r : State) (b : ℕ) (k : ByteKind) → r.line < 4 → kind_of b ≡ k → transition at r b ≡ transition_by at r k
unfolding transition
transition_in at r b k h e = rw (lt-ltb r.line 4 h, e)

pub allowed_six : (k : ℕ) → allowed_digits k ≡ true → (2 ≤ k) × (k ≤ 6)
unfolding allowed_digits
allowed_six k e =
    ⊎_elim (λ p. let q = eqb-true k 2 p in (omega arith, omega arith)) (λ p. let i = within_in 4 6 k p in (omega arith, omega arith))
    (either_true (eqb k 2) (within 4 6 k) e)

-- A state with another number so far.
abbrev pub numbered : State → Bool → ℕ → ℕ → State
numbered r f k v = record {
  line = r.line;
  fresh = f;
  pieces = r.pieces;
  first = r.first;
  from = r.from;
  count = k;
  value = v;
}

pub digit-step : {b d : ℕ} (at : ℕ) (r : State) → r.line < 4 → r.count < 6 → HexDigit b d → Steps at r b (more_digits r d)
unfolding transition_by
digit-step {b} {d} at r l c h = record { goes = transition_in at r b (digit d) l (digit-kind h) ∙ rw (lt-ltb r.count 6 c) }

-- Digits from the start of a number. After the first digit the line is not fresh.
abbrev still : Bool → ℕ → Bool
still f zero = f
still f (suc k) = false

digits-run : {s : List ℕ} {k v : ℕ} (at : ℕ) (r : State) → r.line < 4 → k ≤ 6 → Digits s k v
    → Runs at (numbered r r.fresh 0 0) s (numbered r (still r.fresh k) k v)
digits-run at r l h no_digits = no_run
digits-run at r l h (digits_and {s} {b} {k} {v} {d} ds x) =
    runs_snoc (digits-run at r l (omega arith) ds) (digit-step (at + length s) (numbered r (still r.fresh k) k v) l (omega arith) x)

-- The run over a code point.
pub record PointRun (at : ℕ) (r : State) (s : List ℕ) (v : ℕ) : Type 0 where
  pub count : ℕ
  pub allowed : allowed_digits count ≡ true
  pub runs : Runs at (numbered r r.fresh 0 0) s (numbered r false count v)

pub point_run : {s : List ℕ} {v : ℕ} (at : ℕ) (r : State) → r.line < 4 → CodePoint s v → PointRun at r s v
point_run at r l (of_digits {s} {k} {v} ds a) = go k ds a
  where
    go : (k : ℕ) → Digits s k v → allowed_digits k ≡ true → PointRun at r s v
    go zero ds a = absurd (omega (arith, allowed_six 0 a))
    go (suc k) ds a = record { count = suc k; allowed = a; runs = digits-run at r l (allowed_six (suc k) a).1 ds }

-- ---- a piece that is closed

-- The state after a byte that closes a piece.
abbrev pub closed_by : {c : ℕ} → Closer c → ℕ → List Piece → ℕ → State
closed_by comma_closes k xs at = before_piece k false xs at
closed_by newline_closes k xs at = before_piece (suc k) true xs at

pub close_step : {c : ℕ} (at : ℕ) (r : State) (x : Closer c) → r.line < 4 → allowed_digits r.count ≡ true
    → Steps at r c (closed_by x r.line (r.pieces ++ (piece_read r ∷ [])) (at + 1))
unfolding transition_by
close_step at r comma_closes l a = record { goes = transition_in at r 0x2C comma l comma_kind ∙ rw a }
close_step at r newline_closes l a = record { goes = transition_in at r 0x0A newline l newline_kind ∙ rw a }

pub dash_step : (at : ℕ) (r : State) → r.line < 4 → r.first ≡ None → allowed_digits r.count ≡ true
    → Steps at r 0x2D (after_dash r (at + 1))
unfolding transition_by is_none
dash_step at r l f a = record { goes = transition_in at r 0x2D dash l dash_kind ∙ rw (f, a) }

pub piece_run : {k at : ℕ} {s : List ℕ} {x : Piece} {c : ℕ} (f : Bool) (xs : List Piece) (e : Closer c) → k < 4 → PieceAt k at s x
    → Runs at (before_piece k f xs at) (s ++ (c ∷ [])) (closed_by e k (xs ++ (x ∷ [])) (at + length s + 1))
unfolding or_else
piece_run {k} {at} {s} {c = c} f xs e l (single p) =
    let q = point_run at (before_piece k f xs at) l p in
    runs_snoc q.runs (close_step (at + length s) _ e l q.allowed)
piece_run {k} {at} {c = c} f xs e l (range {s} {t} {v} {w} p q) =
    let a = point_run at (before_piece k f xs at) l p in
    let r₁ = after_dash (numbered (before_piece k f xs at) false a.count v) (at + length s + 1) in
    let b = point_run (at + length s + 1) r₁ l q in
    let h : Runs at (before_piece k f xs at) (s ++ (0x2D ∷ t)) (numbered r₁ false b.count w) = runs_by a.runs
    (dash_step (at + length s) _ l refl a.allowed) b.runs in
    runs_snoc h (close_step (at + length (s ++ (0x2D ∷ t))) _ e l b.allowed)

-- ---- pieces, lines, sheets

pub runs_same : {at : ℕ} {r q : State} {s : List ℕ} (t : List ℕ) → s ≡ t → Runs at r s q → Runs at r t q
runs_same {at} {r} {q} t e h = subst (λ (x : List ℕ). Runs at r x q) e h

pub runs_at : {at : ℕ} {r q : State} {s : List ℕ} (n : ℕ) → at ≡ n → Runs at r s q → Runs n r s q
runs_at {at} {r} {q} {s} n e h = subst (λ (x : ℕ). Runs x r s q) e h

pub runs_to : {at : ℕ} {r q : State} {s : List ℕ} (z : State) → q ≡ z → Runs at r s q → Runs at r s z
runs_to {at} {r} {q} {s} z e h = subst (λ (x : State). Runs at r s x) e h

-- Two parts, of which the first ends with the byte b.
pub runs_parts : {at : ℕ} {r q z : State} (b c : ℕ) (s t : List ℕ) → Runs at r (s ++ (b ∷ [])) q
    → Runs (at + length s + 1) q (t ++ (c ∷ [])) z
    → Runs at r ((s ++ (b ∷ t)) ++ (c ∷ [])) z
runs_parts {at} {r} {q} {z} b c s t h g =
    runs_same ((s ++ (b ∷ t)) ++ (c ∷ [])) (simp append_assoc)
    (runs_and h (runs_at (at + length (s ++ (b ∷ []))) (simp length-append (omega arith)) g))

pub pieces-run : {k at : ℕ} {s : List ℕ} {ys : List Piece} {c : ℕ} (xs : List Piece) (e : Closer c) → k < 4 → Pieces k at s ys
    → Runs at (before_piece k true xs at) (s ++ (c ∷ [])) (closed_by e k (xs ++ ys) (at + length s + 1))
pieces-run xs e l (one_piece p) = piece_run true xs e l p
pieces-run {k} {at} {c = c} xs e l (pieces_and {s} {t} {xs = ys} {x} h p) =
    let a = pieces-run xs comma_closes l h in
    let b = piece_run false (xs ++ ys) e l p in
    runs_to (closed_by e k (xs ++ (ys ++ (x ∷ []))) (at + length (s ++ (0x2C ∷ t)) + 1))
    (ap₂ (λ (us : List Piece) (n : ℕ). closed_by e k us n) (append_assoc xs ys (x ∷ [])) (simp length-append (omega arith)))
    (runs_parts 0x2C c s t a b)

pub newline_step : (at : ℕ) (r : State) → r.line < 4 → r.fresh ≡ true → allowed_digits r.count ≡ false
    → Steps at r 0x0A (before_piece (suc r.line) true r.pieces (at + 1))
unfolding transition_by
newline_step at r l f a = record { goes = transition_in at r 0x0A newline l newline_kind ∙ rw (a, f) }

none_allowed : allowed_digits 0 ≡ false
unfolding allowed_digits
none_allowed = refl

pub line-run : {k at : ℕ} {s : List ℕ} {ys : List Piece} (xs : List Piece) → k < 4 → Line k at s ys
    → Runs at (before_piece k true xs at) (s ++ (0x0A ∷ [])) (before_piece (suc k) true (xs ++ ys) (at + length s + 1))
line-run {k} {at} xs l empty_line =
    runs_to (before_piece (suc k) true (xs ++ []) (at + 0 + 1)) (ap (λ (us : List Piece). before_piece (suc k) true us (at + 0 + 1))
    (sym (append-nil xs)))
    (runs_snoc no_run (newline_step (at + 0) (before_piece k true xs at) l refl none_allowed))
line-run xs l (full_line h) = pieces-run xs newline_closes l h

pub lines-run : {k : ℕ} {s : List ℕ} {xs : List Piece} → k ≤ 4 → Lines k s xs → Runs 0 start s (before_piece k true xs (length s))
lines-run l no_lines = no_run
lines-run l (lines_and {k} {s} {t} {xs} {ys} h g) =
    runs_to (before_piece (suc k) true (xs ++ ys) (length (s ++ (t ++ (0x0A ∷ [])))))
    (ap (λ (n : ℕ). before_piece (suc k) true (xs ++ ys) n) (simp length-append (omega arith)))
    (runs_and (lines-run (omega arith) h) (runs_at (0 + length s) (omega arith) (line-run xs (omega arith) g)))

-- The bytes of a line before a piece.
pub front-run : {k at : ℕ} {s : List ℕ} {f : Bool} {ys : List Piece} (xs : List Piece) → k < 4 → Front k at s f ys
    → Runs at (before_piece k true xs at) s (before_piece k f (xs ++ ys) (at + length s))
front-run {k} {at} xs l line_start =
    runs_to (before_piece k true (xs ++ []) (at + 0)) (go (sym (append-nil xs)) (omega arith)) no_run
  where
    go : {us vs : List Piece} {m n : ℕ} → us ≡ vs → m ≡ n → before_piece k true us m ≡ before_piece k true vs n
    go p q = cc
front-run {k} {at} xs l (after_comma {s} {xs = ys} h) =
    runs_to (before_piece k false (xs ++ ys) (at + length (s ++ (0x2C ∷ []))))
    (ap (λ (n : ℕ). before_piece k false (xs ++ ys) n) (simp length-append (omega arith))) (pieces-run xs comma_closes l h)
