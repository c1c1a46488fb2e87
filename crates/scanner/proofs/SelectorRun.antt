-- The run of selectors by its bytes: three for each. The first selector is at the offset, the second three bytes after it.
use Rattle.emoji.specs.declared.presentation.Presentation.{Presentation}
use Rattle.std.specs.Prelude.{None, Option}
use mathlib.Core.Path.{◌≡◌, refl, ap, sym, ◌∙◌}
use mathlib.Core.Logic.{⊎_elim}
use mathlib.Core.Bool.{Bool, true, false}
use mathlib.Core.List.{List, [], ◌∷◌}
use Prim.Native.Nat.{ℕ, ◌+◌, ◌-◌, ◌*◌, ◌/◌, ◌≤◌, ◌<◌}
use native.Mathlib.Omega.{arith}
use lib.ListN.{length, drop}
use Rattle.base.proofs.Tests.{le_or_lt}
use Rattle.utf8.specs.Rfc3629.{chars}
use Rattle.emoji.specs.Presentation.{is_selector}
use Rattle.scanner.specs.Runs.{run, selectors_at}
use Rattle.scanner.specs.SelectorRun.{first_selector, second_selector, selector_run, selectors_from}
use Rattle.scanner.specs.Spans.{size, width}
use Rattle.scanner.proofs.Bytes.{chars-from}
use Rattle.scanner.proofs.Runs.{Passes, all_pass, pass-and, run_false, run-passes, run_true}
use Rattle.scanner.proofs.SelectorChars.{from-other, selector_width}

-- ---- three bytes for each selector

passes-size : {s : List ℕ} → Passes is_selector s → size width s ≡ 3 * length s
passes-size all_pass = refl
passes-size (pass-and {c = c} {s = s} e h) = let i = passes-size h in omega (arith, selector_width c e)

pub selectors_size : (t : List ℕ) → size width (selectors_at t) ≡ 3 * length (selectors_at t)
selectors_size t = passes-size (run-passes is_selector t)

-- ---- the first two

pub first_is : (t : List ℕ) → first_selector t ≡ first_selector (selectors_at t)
unfolding first_selector run
first_is [] = refl
first_is (c ∷ t) = go (is_selector c) refl
  where
    go : (b : Bool) → is_selector c ≡ b → first_selector (c ∷ t) ≡ first_selector (selectors_at (c ∷ t))
    go true e = ap first_selector (sym (run_true is_selector c t e))
    go false e = from-other c e ∙ ap first_selector (sym (run_false is_selector c t e))

pub second_is : (text : List ℕ) (at : ℕ) → 0 < length (selectors_at (chars (drop at text)))
    → first_selector (chars (drop (at + 3) text)) ≡ second_selector (selectors_at (chars (drop at text)))
unfolding second_selector run
second_is text at h = go (chars (drop at text)) refl h
  where
    go : (t : List ℕ) → chars (drop at text) ≡ t → 0 < length (selectors_at t) → first_selector (chars (drop (at + 3) text))
        ≡ second_selector (selectors_at t)
    go [] e n = absurd (omega arith)
    go (c ∷ t) e n = by (is_selector c) refl
      where
        by : (b : Bool) → is_selector c ≡ b → first_selector (chars (drop (at + 3) text)) ≡ second_selector (selectors_at (c ∷ t))
        by true s =
            let w : at + size width (c ∷ []) ≡ at + 3 = omega (arith, selector_width c s) in
            ap first_selector (ap (λ (m : ℕ). chars (drop m text)) (sym w) ∙ chars-from text at (c ∷ []) t e)
            ∙ first_is t ∙ ap second_selector (sym (run_true is_selector c t s))
        by false s = absurd (omega (arith, ap length (run_false is_selector c t s)))

-- ---- the run as the code makes it

module _ (text : List ℕ) (at end : ℕ) (e : end ≡ at + size width (selectors_at (chars (drop at text)))) where
  end_is : end ≡ at + 3 * length (selectors_at (chars (drop at text)))
  end_is = let t = chars (drop at text) in omega (arith, e, selectors_size t)

  pub no_selectors : end ≡ at → record { first = None; second = None; count = 0; end = end } ≡ selector_run text at
  unfolding selector_run first_selector second_selector
  no_selectors h = go (selectors_at (chars (drop at text))) (omega (arith, end_is))
    where
      go : (s : List ℕ) → length s ≡ 0 → record { first = None; second = None; count = 0; end = end } ≡ selectors_from at s
      go [] n = ap (λ (x : ℕ). record { first = None; second = None; count = 0; end = x }) (omega arith)
      go (c ∷ s) n = absurd (omega arith)

  module _ (n : end ≡ at → ⊥) where
    some-selectors : 0 < length (selectors_at (chars (drop at text)))
    some-selectors = ⊎_elim (λ h. absurd (n (omega (arith, end_is)))) (λ h. h) (le_or_lt (length (selectors_at (chars (drop at text)))) 0)

    pub selector-room : at + 3 ≤ end
    selector-room = omega (arith, end_is, some-selectors)

    pub selectors_are : (a b : Option Presentation) → a ≡ first_selector (chars (drop at text))
        → b ≡ first_selector (chars (drop (at + 3) text))
        → record { first = a; second = b; count = (end - at) / 3; end = end } ≡ selector_run text at
    unfolding selector_run
    selectors_are a b p q =
        let t = chars (drop at text) in
        let k : (end - at) / 3 ≡ length (selectors_at t) = omega (arith, end_is) in
        let m : end ≡ at + size width (selectors_at t) = omega (arith, end_is, selectors_size t) in
        let f : a ≡ first_selector (selectors_at t) = p ∙ first_is t in
        let g : b ≡ second_selector (selectors_at t) = q ∙ second_is text at some-selectors in
        cc
