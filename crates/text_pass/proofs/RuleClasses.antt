-- The classes that the rules distinguish: modifier, tag, 20E3, and all others.
use mathlib.Core.Path.{◌≡◌, refl, sym, ◌∙◌, subst}
use mathlib.Core.Bool.{Bool, true, false, cond, ◌&&◌, not, true≢false}
use mathlib.Core.List.{List}
use Prim.Native.Nat.{ℕ, ◌<◌}
use native.Mathlib.Omega.{arith}
use lib.Dec.{eqb, leb}
use borrow.Author.Tests.{eq-eqb, leb-true, ne_eqb}
use Rattle.base.proofs.Tests.{within_in}
use Rattle.emoji.specs.Unicode.{has_variation_sequence, is_emoji_default, is_emoji_modifier, is_emoji_modifier_base, is_tag}
use Rattle.emoji.specs.UnicodeData.{emoji_modifiers}
use Rattle.emoji.specs.declared.presentation.Presentation.{Presentation}
use Rattle.emoji.proofs.Between.{every, every-member}
use Rattle.policy.specs.Policy.{singleton_rule}
use Rattle.policy.specs.declared.Policy.{Policy}
use Rattle.scanner.specs.Classes.{class_of}
use Rattle.scanner.specs.declared.char_class.Class.{Class}
use Rattle.scanner.specs.declared.char_class.Class.TheVariants.{Other as other}
use Rattle.scanner.proofs.Classes.{
  HasClass,
  class_is,
  has_class,
  is_emoji_lem,
  is_keycap,
  is_link,
  is_modifier,
  is_other,
  is_ri_lem,
  is_selector_lem,
  is_tag_lem,
}
use Rattle.analysis.specs.Rules.{by_keycap, by_modifier, by_tags, outcome, rule1, rule2, rule3, rule4, rule5, rule6, text_first}
use Rattle.text_pass.specs.Changes.{SameRules}

pub rules_as : {c : ℕ} {k : Class} → HasClass c k → SameRules k (class_of c)
rules_as {c} {k} h = subst (λ (j : Class). SameRules k j) (sym (class_is h)) (record { modifier = refl; tags = refl; keycap = refl })

-- For the rules, a character that is no modifier, no tag and not 20E3 has the class other.
pub rules_other : (c : ℕ) → eqb c 0x20E3 ≡ false → is_emoji_modifier c ≡ false → is_tag c ≡ false → SameRules other (class_of c)
unfolding by_modifier by_tags by_keycap
rules_other c k m t = go (has_class c)
  where
    go : {j : Class} → HasClass c j → SameRules other j
    go (is_selector_lem s) = record { modifier = refl; tags = refl; keycap = refl }
    go (is_link s) = record { modifier = refl; tags = refl; keycap = refl }
    go (is_keycap s) = absurd (true≢false (sym (eq-eqb c 0x20E3 s) ∙ k))
    go (is_tag_lem s) = absurd (true≢false (sym s ∙ t))
    go (is_ri_lem s) = record { modifier = refl; tags = refl; keycap = refl }
    go (is_modifier s) = absurd (true≢false (sym s ∙ m))
    go (is_emoji_lem s r n) = record { modifier = refl; tags = refl; keycap = refl }
    go (is_other s r n) = record { modifier = refl; tags = refl; keycap = refl }

-- For the rules, every character below 20E3 has the class other.
pub rules_before : (c : ℕ) → c < 0x20E3 → SameRules other (class_of c)
unfolding is_emoji_modifier every emoji_modifiers is_tag
rules_before c h = rules_other c (ne_eqb c 0x20E3 (λ e. omega arith)) (no_modifier (is_emoji_modifier c) refl) (no_tag (is_tag c) refl)
  where
    no_modifier : (b : Bool) → is_emoji_modifier c ≡ b → b ≡ false
    no_modifier true e = absurd (omega (arith, leb-true 0x1F3FB c (every-member (λ x. leb 0x1F3FB x) emoji_modifiers refl c e)))
    no_modifier false e = refl

    no_tag : (b : Bool) → is_tag c ≡ b → b ≡ false
    no_tag true e = let i = within_in 0xE0020 0xE007F c e in absurd (omega arith)
    no_tag false e = refl

-- The rules have the same outcome for two classes that they do not distinguish.
pub same_outcome : (p : Policy) (c : ℕ) (s : List Presentation) {j k : Class} → SameRules j k → outcome p c j s ≡ outcome p c k s
unfolding outcome
same_outcome p c s h =
    λ i. cond (not (has_variation_sequence c)) (rule1 s)
    (cond (h.modifier i && text_first s) (rule2 s)
    (cond (h.modifier i) (rule3 (is_emoji_modifier_base c) s)
    (cond (h.tags i && is_emoji_default c) (rule4 s) (cond (h.tags i) (rule5 s) (rule6 (singleton_rule p c (h.keycap i)) s)))))
