-- Whether a character is a selector: the results of the tests in both cases, and the bytes of a selector.
use Rattle.std.specs.Prelude.{Some, None}
use mathlib.Core.Path.{◌≡◌, refl, ap, sym, ◌∙◌}
use mathlib.Core.Bool.{Bool, true, false, cond, ◌||◌, true≢false}
use mathlib.Core.Logic.{⊎_elim}
use Prim.Native.Nat.{ℕ}
use native.Mathlib.Omega.{arith}
use lib.Dec.{eqb}
use borrow.Author.Tests.{eqb-true}
use Rattle.base.proofs.Tests.{either_true}
use Rattle.utf8.specs.Rfc3629.{encode}
use Rattle.emoji.specs.Presentation.{as_selector, from_selector, is_selector}
use Rattle.emoji.specs.Theorems.{SelectorsArePresentations}
use Rattle.emoji.specs.declared.presentation.Presentation.{Presentation}
use Rattle.emoji.specs.declared.presentation.Presentation.TheVariants.{Emoji, Text}
use Rattle.emoji.proofs.Claims.{selectors_are_presentations}
use Rattle.scanner.specs.Spans.{width}

pub data CharIs (c : ℕ) : Type 0 where
  a_selector : (q : Presentation) → c ≡ as_selector q → CharIs c
  no_selector : is_selector c ≡ false → CharIs c

pub char_is : (c : ℕ) → CharIs c
unfolding is_selector as_selector
char_is c = go (is_selector c) refl
  where
    go : (b : Bool) → is_selector c ≡ b → CharIs c
    go true e = ⊎_elim (λ t. a_selector Text (eqb-true c 0xFE0E t)) (λ t. a_selector Emoji (eqb-true c 0xFE0F t))
        (either_true (eqb c 0xFE0E) (eqb c 0xFE0F) e)
    go false e = no_selector e

-- ---- by the tests

pub selector_is : (q : Presentation) → is_selector (as_selector q) ≡ true
unfolding is_selector as_selector
selector_is Text = refl
selector_is Emoji = refl

pub from_selector_lem : (q : Presentation) → from_selector (as_selector q) ≡ Some q
unfolding SelectorsArePresentations
from_selector_lem = selectors_are_presentations.0

pub selector_value : (c : ℕ) (q : Presentation) → from_selector c ≡ Some q → c ≡ as_selector q
unfolding SelectorsArePresentations
selector_value = selectors_are_presentations.1

pub from-other : (c : ℕ) → is_selector c ≡ false → from_selector c ≡ None
unfolding is_selector from_selector
from-other c e = go (eqb c 0xFE0E) (eqb c 0xFE0F) e
  where
    go : (a b : Bool) → (a || b) ≡ false → cond a (Some Text) (cond b (Some Emoji) None) ≡ None
    go true b e = cc
    go false true e = cc
    go false false e = refl

pub other_value : (c : ℕ) → from_selector c ≡ None → is_selector c ≡ false
other_value c f = go (char_is c)
  where
    go : CharIs c → is_selector c ≡ false
    go (no_selector n) = n
    go (a_selector q n) = let z : Some q ≡ None = sym (ap from_selector n ∙ from_selector_lem q)
        ∙ f in let n : ◌≡◌ {A = ℕ} 0 1 = cc in absurd (omega arith)

-- ---- three bytes for each selector

pub width_selector : (q : Presentation) → width (as_selector q) ≡ 3
unfolding width encode as_selector
width_selector Text = refl
width_selector Emoji = refl

pub selector_width : (c : ℕ) → is_selector c ≡ true → width c ≡ 3
selector_width c e = go (char_is c)
  where
    go : CharIs c → width c ≡ 3
    go (a_selector q f) = ap width f ∙ width_selector q
    go (no_selector f) = absurd (true≢false (sym e ∙ f))
