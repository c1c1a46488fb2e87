-- After every run of the automaton some bytes complete a sheet.
use mathlib.Core.Path.{◌≡◌, refl, ap, sym, ◌∙◌, subst}
use mathlib.Core.Logic.{◌⊎◌, inl, inr, ⊎_elim}
use mathlib.Core.Bool.{Bool, true}
use mathlib.Core.List.{List, [], ◌∷◌, ◌++◌, append-nil}
use Prim.Native.Nat.{ℕ, zero, suc, ◌+◌, ◌≤◌, ◌<◌}
use native.Mathlib.Omega.{arith}
use lib.ListN.{length}
use Rattle.policy_sheet.specs.Grammar.{Begins, HexDigit, Lines, Piece, allowed_digits, decimal, newline_closes}
use Rattle.policy_sheet.specs.Reader.{RunResult, State, before_piece, more_digits, piece_read, reached}
use Rattle.policy_sheet.proofs.Accepts.{Runs, Steps, close_step, digit-step, newline_step, no_run, runs_at, runs_by}
use Rattle.policy_sheet.proofs.Derives.{Fresh, Held, not_fresh, nothing_read}
use Rattle.policy_sheet.proofs.Runs.{Ended, Going, all_read, ended, stops}

-- ---- completions

-- Bytes that lead to the end of the fourth line.
pub record Completes (at : ℕ) (r : State) : Type 0 where
  pub rest : List ℕ
  pub last : State
  pub runs : Runs at r rest last
  pub whole : last.line ≡ 4

by-step : {at b : ℕ} {r q : State} → Steps at r b q → Completes (at + 1) q → Completes at r
by-step {at} {b} {r} {q} h c = record {
  rest = b ∷ c.rest;
  last = c.last;
  runs = runs_by no_run (subst (λ (n : ℕ). Steps n r b q) (omega arith) h) (runs_at (at + 0 + 1) (omega arith) c.runs);
  whole = c.whole;
}

-- The lines that are left can be empty.
lines_left : (n k at from : ℕ) (xs : List Piece) → k + n ≡ 4 → Completes at (before_piece k true xs from)
unfolding allowed_digits
lines_left zero k at from xs e = record { rest = []; last = before_piece k true xs from; runs = no_run; whole = omega arith }
lines_left (suc n) k at from xs e =
    by-step (newline_step at (before_piece k true xs from) (omega arith) refl refl)
    (lines_left n (suc k) (at + 1) (at + 1) xs (omega arith))

-- The number of lines that are left.
left : (k : ℕ) → k ≤ 4 → (n : ℕ) × (k + n ≡ 4)
left k h = (Prim.Native.Nat.◌-◌ 4 k, omega arith)

closes : (at : ℕ) (r : State) → r.line < 4 → allowed_digits r.count ≡ true → Completes at r
closes at r l a =
    let n = left (suc r.line) (omega arith) in
    by-step (close_step at r newline_closes l a) (lines_left n.0 (suc r.line) (at + 1) (at + 1) (r.pieces ++ (piece_read r ∷ []))
    n.1)

a_zero : HexDigit 0x30 0
a_zero = decimal refl

-- A digit 0, and another one if the number needs it.
number-left : (at : ℕ) (r : State) → r.line < 4 → (k : ℕ) → r.count ≡ k → k ≤ 6 → Completes at r
unfolding allowed_digits
number-left at r l zero e h =
    by-step (digit-step at r l (omega arith) a_zero)
    (by-step (digit-step (at + 1) (more_digits r 0) l (omega arith) a_zero) (closes (at + 1 + 1) (more_digits (more_digits r 0) 0) l
    (ap (λ (n : ℕ). allowed_digits (suc (suc n))) e)))
number-left at r l (suc zero) e h =
    by-step (digit-step at r l (omega arith) a_zero) (closes (at + 1) (more_digits r 0) l (ap (λ (n : ℕ). allowed_digits (suc n)) e))
number-left at r l (suc (suc zero)) e h = closes at r l (ap allowed_digits e)
number-left at r l (suc (suc (suc zero))) e h =
    by-step (digit-step at r l (omega arith) a_zero) (closes (at + 1) (more_digits r 0) l (ap (λ (n : ℕ). allowed_digits (suc n)) e))
number-left at r l (suc (suc (suc (suc zero)))) e h = closes at r l (ap allowed_digits e)
number-left at r l (suc (suc (suc (suc (suc zero))))) e h = closes at r l (ap allowed_digits e)
number-left at r l (suc (suc (suc (suc (suc (suc zero)))))) e h = closes at r l (ap allowed_digits e)
number-left at r l (suc (suc (suc (suc (suc (suc (suc k))))))) e h = absurd (omega arith)

pub completes : (s : List ℕ) (r : State) → Held s r → Completes (length s) r
completes s r h =
    ⊎_elim (λ l. number-left (length s) r l r.count refl h.digits)
    (λ p. record { rest = []; last = r; runs = no_run; whole = p.0 }) h.in_sheet

-- ---- sheets

-- At the end of the fourth line the bytes are a sheet, and its pieces are those that were read.
pub sheet_held : {s : List ℕ} {r : State} → Held s r → r.line ≡ 4 → Lines 4 s r.pieces
sheet_held {s} {r} h e = go h.fresh (is-fresh h.in_sheet) h.text h.pieces
  where
    is-fresh : (r.line < 4) ⊎ ((r.line ≡ 4) × (r.fresh ≡ true)) → r.fresh ≡ true
    is-fresh (inl l) = absurd (omega arith)
    is-fresh (inr p) = p.1

    go : {f : Bool} {u w : List ℕ} {ys : List Piece} → Fresh f u w ys → f ≡ true → s ≡ h.earlier ++ (u ++ w) → r.pieces ≡ h.xs ++ ys
        → Lines 4 s r.pieces
    go nothing_read p tx px =
        subst (λ (l : List ℕ). Lines 4 l r.pieces) (sym (tx ∙ append-nil h.earlier))
        (subst (λ (l : List Piece). Lines 4 h.earlier l) (sym (px ∙ append-nil h.xs))
        (subst (λ (k : ℕ). Lines k h.earlier h.xs) e h.lines_before))
    go not_fresh p tx px = absurd (mathlib.Core.Bool.true≢false (sym p))

pub same_end : {s : List ℕ} {x y : RunResult} → x ≡ y → Ended s x → Ended s y
same_end {s} e h = subst (λ (z : RunResult). Ended s z) e h

pub reached_going : {s : List ℕ} {x : RunResult} (r : State) → x ≡ reached r → Ended s x → Going s r
reached_going {s} r e (all_read g) = subst (λ (z : State). Going s z) (same e) g
  where
    same : {a b : State} → reached a ≡ reached b → a ≡ b
    same e = cc
reached_going r e (stops b c g t n) = let z : ◌≡◌ {A = ℕ} 0 1 = cc in absurd (omega arith)

-- Some sheet begins with what was read.
pub going_begins : {s : List ℕ} {r : State} → Going s r → Begins s
going_begins {s} {r} g =
    let c = completes s r g.held in
    let q = reached_going c.last c.runs.goes (ended c.rest s r g) in
    (c.rest, (c.last.pieces, sheet_held q.held c.whole))
