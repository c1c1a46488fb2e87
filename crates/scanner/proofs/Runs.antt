-- Laws of the longest run at the front of a text, and of the text after the run.
use mathlib.Core.Path.{◌≡◌, refl, ap, ◌∙◌}
use mathlib.Core.Bool.{Bool, true, false, cond}
use mathlib.Core.List.{List, [], ◌∷◌, ◌++◌}
use Prim.Native.Nat.{ℕ}
use Rattle.emoji.specs.Presentation.{is_selector}
use Rattle.scanner.specs.Grammar.{S, no_selectors, selector_and}
use Rattle.scanner.specs.Runs.{run, after_run}

module _ (f : ℕ → Bool) where
  -- All characters pass the test.
  pub data Passes : List ℕ → Type 0 where
    all_pass : Passes []
    pass-and : {c : ℕ} {s : List ℕ} → f c ≡ true → Passes s → Passes (c ∷ s)

  -- The first character does not pass the test, or there is none.
  pub data Stops : List ℕ → Type 0 where
    at_end : Stops []
    at_char : {c : ℕ} {s : List ℕ} → f c ≡ false → Stops (c ∷ s)

  pub run_true : (c : ℕ) (t : List ℕ) → f c ≡ true → run f (c ∷ t) ≡ c ∷ run f t
  unfolding run
  run_true c t e = ap (λ (b : Bool). cond b (c ∷ run f t) []) e

  pub run_false : (c : ℕ) (t : List ℕ) → f c ≡ false → run f (c ∷ t) ≡ []
  unfolding run
  run_false c t e = ap (λ (b : Bool). cond b (c ∷ run f t) []) e

  pub after_true : (c : ℕ) (t : List ℕ) → f c ≡ true → after_run f (c ∷ t) ≡ after_run f t
  unfolding after_run
  after_true c t e = ap (λ (b : Bool). cond b (after_run f t) (c ∷ t)) e

  pub after_false : (c : ℕ) (t : List ℕ) → f c ≡ false → after_run f (c ∷ t) ≡ c ∷ t
  unfolding after_run
  after_false c t e = ap (λ (b : Bool). cond b (after_run f t) (c ∷ t)) e

  pub run_all : {s t : List ℕ} → Passes s → Stops t → run f (s ++ t) ≡ s
  unfolding run
  run_all all_pass at_end = refl
  run_all all_pass (at_char {c = c} {s = s} e) = run_false c s e
  run_all {t = t} (pass-and {c = c} {s = s} e h) p = run_true c (s ++ t) e ∙ ap (λ (l : List ℕ). c ∷ l) (run_all h p)

  pub after_all : {s t : List ℕ} → Passes s → Stops t → after_run f (s ++ t) ≡ t
  unfolding after_run
  after_all all_pass at_end = refl
  after_all all_pass (at_char {c = c} {s = s} e) = after_false c s e
  after_all {t = t} (pass-and {c = c} {s = s} e h) p = after_true c (s ++ t) e ∙ after_all h p

  -- The run and the text after it are the whole text. Every character of the run passes the test; the first one after it does not.
  pub run-after : (t : List ℕ) → run f t ++ after_run f t ≡ t
  unfolding run after_run
  run-after [] = refl
  run-after (c ∷ t) = go (f c) (run-after t)
    where
      go : (b : Bool) → run f t ++ after_run f t ≡ t → cond b (c ∷ run f t) [] ++ cond b (after_run f t) (c ∷ t) ≡ c ∷ t
      go true h = ap (λ (l : List ℕ). c ∷ l) h
      go false h = refl

  pub run-passes : (t : List ℕ) → Passes (run f t)
  unfolding run
  run-passes [] = all_pass
  run-passes (c ∷ t) = go (f c) refl (run-passes t)
    where
      go : (b : Bool) → f c ≡ b → Passes (run f t) → Passes (cond b (c ∷ run f t) [])
      go true e h = pass-and e h
      go false e h = all_pass

  pub after-stops : (t : List ℕ) → Stops (after_run f t)
  unfolding after_run
  after-stops [] = at_end
  after-stops (c ∷ t) = go (f c) refl (after-stops t)
    where
      go : (b : Bool) → f c ≡ b → Stops (after_run f t) → Stops (cond b (after_run f t) (c ∷ t))
      go true e h = h
      go false e h = at_char e

-- ---- S is a run of selectors

pub S_passes : {s : List ℕ} → S s → Passes is_selector s
S_passes no_selectors = all_pass
S_passes (selector_and e h) = pass-and e (S_passes h)

pub passes_S : {s : List ℕ} → Passes is_selector s → S s
passes_S all_pass = no_selectors
passes_S (pass-and e h) = selector_and e (passes_S h)
