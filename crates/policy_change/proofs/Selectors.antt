-- Selectors are taken alike under any policy. After any other character the policy in force judges what is held.
use Rattle.emoji.specs.declared.presentation.Presentation.{Presentation}
use Rattle.std.specs.Prelude.{Option}
use mathlib.Core.Path.{◌≡◌, refl, ap, sym, ◌∙◌, subst}
use mathlib.Core.Bool.{Bool, true, false, ◌&&◌, true≢false}
use mathlib.Core.List.{List, [], ◌∷◌}
use Prim.Native.Nat.{ℕ}
use Rattle.base.proofs.Tests.{both_true}
use Rattle.utf8.specs.Rfc3629.{all_scalar, is_scalar}
use Rattle.emoji.specs.Presentation.{from_selector, is_selector}
use Rattle.emoji.specs.Unicode.{has_variation_sequence}
use Rattle.policy.specs.declared.Policy.{Policy}
use Rattle.scanner.proofs.SelectorChars.{CharIs, a_selector, char_is, from-other, from_selector_lem, no_selector}
use Rattle.feed.specs.Feed.{Effect, Pending, fed_as, held_after_of, join_effects, take_char, take_chars}
use Rattle.feed.proofs.Kept.{HeldUnder, a_base, chars-held, no_base}
use Rattle.policy_change.specs.Bytes.{only_selectors}

abbrev R : Type 0
R = Pending × Effect

module _ (p q : Policy) where
  selector_same : (s : Pending) (c : ℕ) → is_selector c ≡ true → take_char p s c (from_selector c) ≡ take_char q s c (from_selector c)
  unfolding take_char
  selector_same s c e = go (char_is c)
    where
      go : CharIs c → take_char p s c (from_selector c) ≡ take_char q s c (from_selector c)
      go (a_selector r d) =
          let f = ap from_selector d ∙ from_selector_lem r in
          ap (λ (y : Option Presentation). take_char p s c y) f ∙ sym (ap (λ (y : Option Presentation). take_char q s c y) f)
      go (no_selector i) = absurd (true≢false (sym e ∙ i))

  pub selectors_same : (s : Pending) (cs : List ℕ) → only_selectors cs ≡ true → take_chars s (fed_as p cs) ≡ take_chars s (fed_as q cs)
  unfolding take_chars only_selectors
  selectors_same s [] e = refl
  selectors_same s (c ∷ cs) e =
      let b = both_true (is_selector c) (only_selectors cs) e in
      let r = take_char q s c (from_selector c) in
      ap (λ (x : R). ((take_chars x.0 (fed_as p cs)).0, join_effects x.1 (take_chars x.0 (fed_as p cs)).1))
      (selector_same s c b.0)
      ∙ ap (λ (x : R). (x.0, join_effects r.1 x.1)) (selectors_same r.0 cs b.1)

module _ (p : Policy) where
  fresh : (s : Pending) (c : ℕ) → is_selector c ≡ false → is_scalar c ≡ true → HeldUnder p (take_char p s c (from_selector c)).0
  unfolding take_char
  fresh s c i j =
      subst (λ (y : Option Presentation). HeldUnder p (take_char p s c y).0) (sym (from-other c i))
      (held-under (has_variation_sequence c) refl)
    where
      held-under : (b : Bool) → has_variation_sequence c ≡ b → HeldUnder p (held_after_of p c b)
      held-under true e = a_base j e
      held-under false e = no_base

  pub settled_under : (s : Pending) (cs : List ℕ) → only_selectors cs ≡ false → all_scalar cs ≡ true
      → HeldUnder p (take_chars s (fed_as p cs)).0
  unfolding take_chars only_selectors all_scalar
  settled_under s [] e a = absurd (true≢false e)
  settled_under s (c ∷ cs) e a =
      let b = both_true (is_scalar c) (all_scalar cs) a in
      go (is_selector c) refl (λ d. settled_under (take_char p s c (from_selector c)).0 cs
      (after-selector (is_selector c) (only_selectors cs) d e) b.1)
      (λ d. chars-held p (fresh s c d b.0) cs b.1)
    where
      after-selector : (t u : Bool) → t ≡ true → (t && u) ≡ false → u ≡ false
      after-selector true u d e = e
      after-selector false u d e = absurd (true≢false (sym d))

      go : (t : Bool) → is_selector c ≡ t → (is_selector c ≡ true → HeldUnder p
          (take_chars (take_char p s c (from_selector c)).0 (fed_as p cs)).0)
          → (is_selector c ≡ false → HeldUnder p (take_chars (take_char p s c (from_selector c)).0 (fed_as p cs)).0)
          → HeldUnder p (take_chars (take_char p s c (from_selector c)).0 (fed_as p cs)).0
      go true d g h = g d
      go false d g h = h d
