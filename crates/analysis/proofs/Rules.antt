-- Which of the six rules holds for a base: `by_rules` derives a law of `outcome` from a law of each rule.
use Rattle.std.specs.Prelude.{Some}
use mathlib.Core.Path.{◌≡◌, refl, ap, sym, ◌∙◌, subst}
use mathlib.Core.Logic.{◌≢◌}
use mathlib.Core.Bool.{Bool, true, false, cond}
use mathlib.Core.List.{List}
use Prim.Native.Nat.{ℕ}
use Rattle.emoji.specs.Unicode.{has_variation_sequence, is_emoji_default, is_emoji_modifier_base, variation_sequence_index}
use Rattle.emoji.specs.UnicodeData.{variation_entries}
use Rattle.emoji.specs.declared.presentation.Presentation.{Presentation}
use Rattle.emoji.proofs.Ascent.{is_at, member_index}
use Rattle.policy.specs.Policy.{singleton_rule}
use Rattle.policy.specs.declared.Policy.{Policy}
use Rattle.policy.specs.declared.SingletonRule.{SingletonRule}
use Rattle.scanner.specs.declared.char_class.Class.{Class}
use Rattle.scanner.specs.declared.char_class.Class.TheVariants.{
  Selector as selector,
  Link as link,
  Ri as ri,
  Modifier as modifier,
  Emoji as emoji,
  Keycap as keycap,
  Tag as tag,
  Other as other,
}
use Rattle.analysis.specs.Rules.{Outcome, by_keycap, by_modifier, by_tags, outcome, rule1, rule2, rule3, rule4, rule5, rule6, text_first}

-- ---- which rule holds

pub has_entry : (c i : ℕ) → variation_sequence_index c ≡ Some i → has_variation_sequence c ≡ true
unfolding has_variation_sequence variation_sequence_index is_at
has_entry c i e = member_index c variation_entries ∙ ap is_at e

-- Rules 2 and 3 together.
abbrev pub rule23 : Bool → List Presentation → Outcome
rule23 b s = cond (text_first s) (rule2 s) (rule3 b s)

pub outcome_no_entry : (p : Policy) (c : ℕ) (k : Class) (s : List Presentation) → has_variation_sequence c ≡ false
    → outcome p c k s ≡ rule1 s
unfolding outcome
outcome_no_entry p c k s e = simp e

-- The result of rules 2 to 6, by the class of the next character.
abbrev pub later_rules : Policy → ℕ → Class → List Presentation → Outcome
later_rules p c selector s = rule6 (singleton_rule p c false) s
later_rules p c link s = rule6 (singleton_rule p c false) s
later_rules p c ri s = rule6 (singleton_rule p c false) s
later_rules p c modifier s = rule23 (is_emoji_modifier_base c) s
later_rules p c emoji s = rule6 (singleton_rule p c false) s
later_rules p c keycap s = rule6 (singleton_rule p c true) s
later_rules p c tag s = cond (is_emoji_default c) (rule4 s) (rule5 s)
later_rules p c other s = rule6 (singleton_rule p c false) s

pub outcome_entry : (p : Policy) (c : ℕ) (k : Class) (s : List Presentation) → has_variation_sequence c ≡ true → outcome p c k s
    ≡ later_rules p c k s
unfolding outcome by_modifier by_tags by_keycap
outcome_entry p c selector s e = simp e
outcome_entry p c link s e = simp e
outcome_entry p c ri s e = simp e
outcome_entry p c modifier s e = simp e
outcome_entry p c emoji s e = simp e
outcome_entry p c keycap s e = simp e
outcome_entry p c tag s e = simp e
outcome_entry p c other s e = simp e

-- If the next character is neither a modifier nor a tag, rule 6 holds.
pub by-policy : (p : Policy) (c : ℕ) (k : Class) (s : List Presentation) → has_variation_sequence c ≡ true → k ≢ modifier → k ≢ tag
    → outcome p c k s ≡ rule6 (singleton_rule p c (by_keycap k)) s
unfolding by_keycap
by-policy p c selector s e m t = outcome_entry p c selector s e
by-policy p c link s e m t = outcome_entry p c link s e
by-policy p c ri s e m t = outcome_entry p c ri s e
by-policy p c modifier s e m t = absurd (m refl)
by-policy p c emoji s e m t = outcome_entry p c emoji s e
by-policy p c keycap s e m t = outcome_entry p c keycap s e
by-policy p c tag s e m t = absurd (t refl)
by-policy p c other s e m t = outcome_entry p c other s e

-- If the next character is no modification, its class makes no difference.
pub outcome_unmodified : (p : Policy) (c : ℕ) (k : Class) (s : List Presentation) → by_modifier k ≡ false → by_tags k ≡ false → by_keycap k
    ≡ false → outcome p c k s ≡ outcome p c other s
unfolding outcome by_modifier by_tags by_keycap
outcome_unmodified p c k s a b d = rw (a, b, d)

-- A law of each rule is a law of the rule that holds for a base.
module _ (P : (List Presentation → Outcome) → Type 0) (r1 : P rule1) (r23 : (b : Bool) → P (rule23 b)) (r4 : P rule4) (r5 : P rule5)
    (r6 : (r : SingletonRule) → P (rule6 r)) where
  by-later : (p : Policy) (c : ℕ) (k : Class) → P (later_rules p c k)
  by-later p c selector = r6 (singleton_rule p c false)
  by-later p c link = r6 (singleton_rule p c false)
  by-later p c ri = r6 (singleton_rule p c false)
  by-later p c modifier = r23 (is_emoji_modifier_base c)
  by-later p c emoji = r6 (singleton_rule p c false)
  by-later p c keycap = r6 (singleton_rule p c true)
  by-later p c tag = go (is_emoji_default c)
    where
      go : (b : Bool) → P (λ s. cond b (rule4 s) (rule5 s))
      go true = r4
      go false = r5
  by-later p c other = r6 (singleton_rule p c false)

  pub by_rules : (p : Policy) (c : ℕ) (k : Class) → P (outcome p c k)
  by_rules p c k = go (has_variation_sequence c) refl
    where
      go : (b : Bool) → has_variation_sequence c ≡ b → P (outcome p c k)
      go true e = subst P (λ i s. sym (outcome_entry p c k s e) i) (by-later p c k)
      go false e = subst P (λ i s. sym (outcome_no_entry p c k s e) i) r1
