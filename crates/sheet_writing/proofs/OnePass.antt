-- A line can be written in one pass over the entries that looks at the next entry only.
use mathlib.Core.Path.{◌≡◌, refl, ap, sym, ◌∙◌, subst}
use mathlib.Core.Bool.{Bool, true, false, true≢false, ◌||◌}
use mathlib.Core.List.{List, [], ◌∷◌, ◌++◌, append_assoc, append-nil, map}
use Prim.Native.Nat.{ℕ, suc, ◌<◌}
use native.Mathlib.Omega.{arith}
use borrow.Author.Tests.{eq-eqb, ne_eqb}
use Rattle.base.proofs.Tests.{or_false}
use Rattle.base.specs.Texts.{parted}
use Rattle.policy_sheet.specs.Meaning.{Each, each_and}
use Rattle.policy_sheet.specs.Writer.{Run, first_in, joined, point_text, run_text, runs_from, with_entry}
use Rattle.policy_sheet.proofs.RunCovers.{Among, Up, runs-among, up_tail}
use Rattle.sheet_writing.specs.OnePass.{entry_text, with_comma, line_from}

-- ---- runs as texts with commas

unfoldable pub join_text : Bool → List Run → List ℕ
join_text any [] = []
join_text any (r ∷ rs) = with_comma any (run_text r) ++ join_text true rs

-- The rest of a run after its first code point, and the runs after it.
unfoldable pub after_first_lem : List Run → List ℕ
after_first_lem [] = []
after_first_lem (r ∷ rs) = (0x2D ∷ point_text r.last) ++ join_text true rs

parted-join : (rs : List Run) → parted 0x2C (map run_text rs) ≡ join_text false rs
unfolding parted join_text with_comma
parted-join [] = refl
parted-join (r ∷ []) = sym (append-nil (run_text r))
parted-join (r ∷ (q ∷ rs)) = ap (λ (t : List ℕ). run_text r ++ (0x2C ∷ t)) (parted-join (q ∷ rs))

run_single : (c : ℕ) → run_text (record { first = c; last = c }) ≡ point_text c
unfolding run_text
run_single c = rw (eq-eqb c c refl)

run_range : (c l : ℕ) → c < l → run_text (record { first = c; last = l }) ≡ point_text c ++ (0x2D ∷ point_text l)
unfolding run_text
run_range c l h = rw (ne_eqb c l (λ e. omega arith))

with_comma_append : (any : Bool) (s t : List ℕ) → with_comma any (s ++ t) ≡ with_comma any s ++ t
unfolding with_comma
with_comma_append true s t = refl
with_comma_append false s t = refl

-- ---- the pass

pub record Pass (p : ℕ → Bool) (i : ℕ) (cs : List ℕ) : Type 0 where
  pub outside : (any : Bool) → line_from p i false any cs ≡ join_text any (runs_from p i cs)
  pub ended : first_in p i cs ≡ false → line_from p i true true cs ≡ join_text true (runs_from p i cs)
  pub going : first_in p i cs ≡ true → line_from p i true true cs ≡ after_first_lem (runs_from p i cs)

data Full : List Run → Type 0 where
  full : {r : Run} {rs : List Run} → Full (r ∷ rs)

with_full : (c : ℕ) (n : Bool) (rs : List Run) → Full (with_entry c true n rs)
unfolding with_entry joined
with_full c false rs = full
with_full c true [] = full
with_full c true (r ∷ rs) = full

head_full : (p : ℕ → Bool) (i : ℕ) (cs : List ℕ) → first_in p i cs ≡ true → Full (runs_from p i cs)
unfolding first_in runs_from
head_full p i [] e = absurd (true≢false (sym e))
head_full p i (c ∷ cs) e =
    subst (λ (b : Bool). Full (with_entry c b (first_in p (suc i) cs) (runs_from p (suc i) cs))) (sym e)
    (with_full c (first_in p (suc i) cs)
    (runs_from p (suc i) cs))

module _ (c : ℕ) (cs : List ℕ) (up : Up (c ∷ cs)) where
  -- A run that begins with c and goes on.
  joined_text : (any : Bool) {rs : List Run} → Full rs → Each (Among cs) rs
      → with_comma any (point_text c) ++ after_first_lem rs ≡ join_text any
      (joined c rs)
  unfolding after_first_lem join_text joined
  joined_text any (full {r} {rs}) (each_and a hs) =
      sym (append_assoc (with_comma any (point_text c)) (0x2D ∷ point_text r.last) (join_text true rs))
      ∙ ap (λ (t : List ℕ). t ++ join_text true rs)
      (sym (with_comma_append any (point_text c) (0x2D ∷ point_text r.last))
      ∙ ap (with_comma any)
      (sym (run_range c r.last (omega (arith, a.last_is, up 0 (suc a.to) (omega arith) (omega (arith, a.in_list)))))))

  joined-after : {rs : List Run} → Full rs → after_first_lem (joined c rs) ≡ after_first_lem rs
  unfolding after_first_lem joined
  joined-after full = refl

  single_text : (any : Bool) (rs : List Run) → with_comma any (point_text c) ++ join_text true rs ≡ join_text any
      (record { first = c; last = c } ∷ rs)
  unfolding join_text
  single_text any rs = ap (λ (t : List ℕ). with_comma any t ++ join_text true rs) (sym (run_single c))

or_true : (b : Bool) → (b || true) ≡ true
or_true true = refl
or_true false = refl

module _ (p : ℕ → Bool) (i c : ℕ) (cs : List ℕ) (up : Up (c ∷ cs)) (h : Pass p (suc i) cs) where
  abbrev R : List Run
  R = runs_from p (suc i) cs

  outside-step : (b n any : Bool) → first_in p (suc i) cs ≡ n
      → entry_text false any b n c ++ line_from p (suc i) b (any || b) cs ≡ join_text
      any (with_entry c b n R)
  unfolding entry_text with_entry
  outside-step false n any f = h.outside (any || false) ∙ ap (λ (a : Bool). join_text a R) (or_false any)
  outside-step true false any f =
      ap (λ (a : Bool). with_comma any (point_text c) ++ line_from p (suc i) true a cs) (or_true any)
      ∙ ap (λ (t : List ℕ). with_comma any (point_text c) ++ t) (h.ended f)
      ∙ single_text c cs up any R
  outside-step true true any f =
      ap (λ (a : Bool). with_comma any (point_text c) ++ line_from p (suc i) true a cs) (or_true any)
      ∙ ap (λ (t : List ℕ). with_comma any (point_text c) ++ t) (h.going f)
      ∙ joined_text c cs up any (head_full p (suc i) cs f) (runs-among p (suc i) cs)

  ended-step : (b n : Bool) → b ≡ false → entry_text true true b n c ++ line_from p (suc i) b true cs ≡ join_text true (with_entry c b n R)
  unfolding entry_text with_entry
  ended-step false n e = h.outside true
  ended-step true n e = absurd (true≢false e)

  going_step : (b n : Bool) → b ≡ true → first_in p (suc i) cs ≡ n → entry_text true true b n c ++ line_from p (suc i) b true
      cs ≡ after_first_lem (with_entry c b n R)
  unfolding entry_text with_entry after_first_lem
  going_step false n e f = absurd (true≢false (sym e))
  going_step true false e f = ap (λ (t : List ℕ). (0x2D ∷ point_text c) ++ t) (h.ended f)
  going_step true true e f = h.going f ∙ sym (joined-after c cs up (head_full p (suc i) cs f))

pub pass : (p : ℕ → Bool) (i : ℕ) (cs : List ℕ) → Up cs → Pass p i cs
unfolding line_from runs_from first_in join_text
pass p i [] up = record { outside = λ any. refl; ended = λ e. refl; going = λ e. absurd (true≢false (sym e)) }
pass p i (c ∷ cs) up =
    let h = pass p (suc i) cs (up_tail cs up) in
    record {
      outside = λ any. outside-step p i c cs up h (p i) (first_in p (suc i) cs) any refl;
      ended = λ e. ended-step p i c cs up h (p i) (first_in p (suc i) cs) e;
      going = λ e. going_step p i c cs up h (p i) (first_in p (suc i) cs) e refl;
    }

-- A line is the bytes that its entries add, one after the other.
pub one-pass : (p : ℕ → Bool) (cs : List ℕ) → Up cs → parted 0x2C (map run_text (runs_from p 0 cs)) ≡ line_from p 0 false false cs
one-pass p cs up = parted-join (runs_from p 0 cs) ∙ sym ((pass p 0 cs up).outside false)
