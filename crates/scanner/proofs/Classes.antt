-- The class of a character determines what the character is in document 01's terms, and these determine the class: `has_class` and
-- `class_is`.
use mathlib.Core.Path.{◌≡◌, refl, sym, ◌∙◌, subst}
use mathlib.Core.Bool.{Bool, true, false, cond, not, true≢false, false≢true}
use Prim.Native.Nat.{ℕ, ◌<◌}
use native.Mathlib.Omega.{arith}
use lib.Dec.{eqb}
use borrow.Author.Tests.{eq-eqb, eqb-true, ne_eqb, not-true}
use Rattle.base.proofs.Tests.{fails, within-below, within_in}
use Rattle.emoji.specs.Presentation.{is_selector}
use Rattle.emoji.specs.Tables.{in_ranges}
use Rattle.emoji.specs.Unicode.{has_variation_sequence, is_emoji, is_emoji_modifier, is_ri, is_tag}
use Rattle.emoji.specs.UnicodeData.{emoji_modifiers, ri_ranges}
use Rattle.emoji.specs.Theorems.{
  LinkAndKeycapAreNotEmoji,
  ModifiersAreEmoji,
  NoModifierIsEntry,
  NoRegionalIndicatorIsEntry,
  NoSelectorIsEmoji,
  NoTagIsEmoji,
  RegionalIndicatorsAreEmoji,
  VariationEntriesAreEmoji,
}
use Rattle.emoji.proofs.Between.{every, every-member}
use Rattle.emoji.proofs.Claims.{
  link_and_keycap_are_not_emoji,
  modifiers_are_emoji,
  no_modifier_is_entry,
  no_regional_indicator_is_entry,
  no_selector_is_emoji,
  no_tag_is_emoji,
  regional_indicators_are_emoji,
  variation_entries_are_emoji,
}
use Rattle.scanner.specs.Classes.{Class, selector, link, ri, modifier, emoji, keycap, tag, other, class_of}
use Rattle.scanner.specs.Grammar.{Plain}

-- What holds of a character of the class.
pub data HasClass (c : ℕ) : Class → Type 0 where
  is_selector_lem : is_selector c ≡ true → HasClass c selector
  is_link : c ≡ 0x200D → HasClass c link
  is_keycap : c ≡ 0x20E3 → HasClass c keycap
  is_tag_lem : is_tag c ≡ true → HasClass c tag
  is_ri_lem : is_ri c ≡ true → HasClass c ri
  is_modifier : is_emoji_modifier c ≡ true → HasClass c modifier
  is_emoji_lem : is_emoji c ≡ true → is_ri c ≡ false → is_emoji_modifier c ≡ false → HasClass c emoji
  is_other : Plain c → eqb c 0x20E3 ≡ false → is_tag c ≡ false → HasClass c other

-- ---- from the class to the character

pub has_class : (c : ℕ) → HasClass c (class_of c)
unfolding class_of
has_class c = go (is_selector c) (eqb c 0x200D) (eqb c 0x20E3) (is_tag c) (is_ri c) (is_emoji_modifier c)
    (is_emoji c) refl refl refl refl refl refl refl
  where
    go : (s l k t r m e : Bool) → is_selector c ≡ s → eqb c 0x200D ≡ l → eqb c 0x20E3 ≡ k → is_tag c ≡ t → is_ri c ≡ r
        → is_emoji_modifier c ≡ m
        → is_emoji c ≡ e
        → HasClass c (cond s selector (cond l link (cond k keycap (cond t tag (cond r ri (cond m modifier (cond e emoji other)))))))
    go true l k t r m e s' l' k' t' r' m' e' = is_selector_lem s'
    go false true k t r m e s' l' k' t' r' m' e' = is_link (eqb-true c 0x200D l')
    go false false true t r m e s' l' k' t' r' m' e' = is_keycap (eqb-true c 0x20E3 k')
    go false false false true r m e s' l' k' t' r' m' e' = is_tag_lem t'
    go false false false false true m e s' l' k' t' r' m' e' = is_ri_lem r'
    go false false false false false true e s' l' k' t' r' m' e' = is_modifier m'
    go false false false false false false true s' l' k' t' r' m' e' = is_emoji_lem e' r' m'
    go false false false false false false false s' l' k' t' r' m' e' = is_other (record { no_selector = s'; no_link = l'; no_emoji = e' })
        k' t'

-- ---- a character has only one class

-- If the test f passes only where is_emoji is x, then f fails where is_emoji is not x.
contrary : (f : ℕ → Bool) (x : Bool) → ((c : ℕ) → f c ≡ true → is_emoji c ≡ x) → (c : ℕ) → is_emoji c ≡ not x → f c ≡ false
contrary f x h c e = fails (f c) (λ p. never x (sym (h c p) ∙ e))
  where
    never : (x : Bool) → x ≡ not x → ⊥
    never true p = true≢false p
    never false p = false≢true p

pub emoji_no_selector : (c : ℕ) → is_emoji c ≡ true → is_selector c ≡ false
unfolding NoSelectorIsEmoji
emoji_no_selector = contrary is_selector false no_selector_is_emoji

pub emoji_no_link : (c : ℕ) → is_emoji c ≡ true → eqb c 0x200D ≡ false
unfolding LinkAndKeycapAreNotEmoji
emoji_no_link = contrary (λ c. eqb c 0x200D) false
    (λ c p. subst (λ (x : ℕ). is_emoji x ≡ false) (sym (eqb-true c 0x200D p)) link_and_keycap_are_not_emoji.0)

pub emoji_no_keycap : (c : ℕ) → is_emoji c ≡ true → eqb c 0x20E3 ≡ false
unfolding LinkAndKeycapAreNotEmoji
emoji_no_keycap = contrary (λ c. eqb c 0x20E3) false
    (λ c p. subst (λ (x : ℕ). is_emoji x ≡ false) (sym (eqb-true c 0x20E3 p)) link_and_keycap_are_not_emoji.1)

pub emoji_no_tag : (c : ℕ) → is_emoji c ≡ true → is_tag c ≡ false
unfolding NoTagIsEmoji
emoji_no_tag = contrary is_tag false no_tag_is_emoji

pub ri_emoji : (c : ℕ) → is_ri c ≡ true → is_emoji c ≡ true
unfolding RegionalIndicatorsAreEmoji
ri_emoji = regional_indicators_are_emoji

pub modifier_emoji : (c : ℕ) → is_emoji_modifier c ≡ true → is_emoji c ≡ true
unfolding ModifiersAreEmoji
modifier_emoji = modifiers_are_emoji

pub modifier_no_ri : (c : ℕ) → is_emoji_modifier c ≡ true → is_ri c ≡ false
unfolding is_emoji_modifier is_ri in_ranges every emoji_modifiers ri_ranges
modifier_no_ri c m = not-true (is_ri c) (every-member (λ x. not (is_ri x)) emoji_modifiers refl c m)

pub tag_no_selector : (c : ℕ) → is_tag c ≡ true → is_selector c ≡ false
unfolding is_tag is_selector
tag_no_selector c e = let b = within_in 0xE0020 0xE007F c e in simp (ne_eqb c 0xFE0E (λ p. omega arith), ne_eqb c 0xFE0F (λ p. omega arith))

pub tag_no_link : (c : ℕ) → is_tag c ≡ true → eqb c 0x200D ≡ false
unfolding is_tag
tag_no_link c e = let b = within_in 0xE0020 0xE007F c e in ne_eqb c 0x200D (λ p. omega arith)

pub tag_no_keycap : (c : ℕ) → is_tag c ≡ true → eqb c 0x20E3 ≡ false
unfolding is_tag
tag_no_keycap c e = let b = within_in 0xE0020 0xE007F c e in ne_eqb c 0x20E3 (λ p. omega arith)

pub tag_no_ri : (c : ℕ) → is_tag c ≡ true → is_ri c ≡ false
unfolding NoTagIsEmoji
tag_no_ri c e = contrary is_ri true ri_emoji c (no_tag_is_emoji c e)

-- ---- from the character to the class

pub class_is : {c : ℕ} {k : Class} → HasClass c k → class_of c ≡ k
unfolding class_of is_selector
class_is {c} (is_selector_lem s) = simp s
class_is {c} (is_link e) = subst (λ (x : ℕ). class_of x ≡ link) (sym e) refl
class_is {c} (is_keycap e) = subst (λ (x : ℕ). class_of x ≡ keycap) (sym e) refl
class_is {c} (is_tag_lem e) = simp (tag_no_selector c e, tag_no_link c e, tag_no_keycap c e, e)
class_is {c} (is_ri_lem r) =
    let e = ri_emoji c r in
    simp (emoji_no_selector c e, emoji_no_link c e, emoji_no_keycap c e, emoji_no_tag c e, r)
class_is {c} (is_modifier m) =
    let e = modifier_emoji c m in
    simp (emoji_no_selector c e, emoji_no_link c e, emoji_no_keycap c e, emoji_no_tag c e, modifier_no_ri c m, m)
class_is {c} (is_emoji_lem e r m) =
    simp (emoji_no_selector c e, emoji_no_link c e, emoji_no_keycap c e, emoji_no_tag c e, r, m, e)
class_is {c} (is_other p k t) =
    let e = p.no_emoji in
    simp (p.no_selector, p.no_link, k, t, contrary is_ri true ri_emoji c e, contrary is_emoji_modifier true modifier_emoji c e, e)

-- A character that is not an emoji and has none of the other classes has the class other.
pub class_other : (c : ℕ) → is_emoji c ≡ false → (c ≡ 0xFE0E → ⊥) → (c ≡ 0xFE0F → ⊥) → (c ≡ 0x200D → ⊥) → (c ≡ 0x20E3 → ⊥)
    → is_tag c ≡ false
    → class_of c ≡ other
unfolding is_selector
class_other c e s s' l k t =
    class_is (is_other (record { no_selector = simp (ne_eqb c 0xFE0E s, ne_eqb c 0xFE0F s'); no_link = ne_eqb c 0x200D l; no_emoji = e })
    (ne_eqb c 0x20E3 k) t)

-- A character below 200D that is no emoji has the class other.
pub class_low : (c : ℕ) → is_emoji c ≡ false → c < 0x200D → class_of c ≡ other
unfolding is_tag
class_low c e h = class_other c e (λ p. omega arith) (λ p. omega arith) (λ p. omega arith) (λ p. omega arith)
    (within-below 0xE0020 0xE007F c (omega arith))

pub class_selector : (c : ℕ) → is_selector c ≡ true → class_of c ≡ selector
class_selector c e = class_is (is_selector_lem e)

pub class_link : (c : ℕ) → eqb c 0x200D ≡ true → class_of c ≡ link
class_link c e = class_is (is_link (eqb-true c 0x200D e))

pub selector_class : (c : ℕ) → class_of c ≡ selector → is_selector c ≡ true
selector_class c e = go (subst (HasClass c) e (has_class c))
  where
    go : HasClass c selector → is_selector c ≡ true
    go (is_selector_lem s) = s

-- An emoji has the class ri, modifier or emoji.
pub data EmojiClass (c : ℕ) : Type 0 where
  an_ri : is_ri c ≡ true → EmojiClass c
  a_modifier : is_emoji_modifier c ≡ true → EmojiClass c
  an_emoji : HasClass c emoji → EmojiClass c

pub emoji_class : (c : ℕ) → is_emoji c ≡ true → EmojiClass c
emoji_class c e = go (is_ri c) (is_emoji_modifier c) refl refl
  where
    go : (r m : Bool) → is_ri c ≡ r → is_emoji_modifier c ≡ m → EmojiClass c
    go true m r' m' = an_ri r'
    go false true r' m' = a_modifier m'
    go false false r' m' = an_emoji (is_emoji_lem e r' m')

-- 20E3 and tags are plain characters in the grammar's sense.
pub keycap_plain : Plain 0x20E3
unfolding is_selector LinkAndKeycapAreNotEmoji
keycap_plain = record { no_selector = refl; no_link = refl; no_emoji = link_and_keycap_are_not_emoji.1 }

pub tag_plain : (c : ℕ) → is_tag c ≡ true → Plain c
unfolding NoTagIsEmoji
tag_plain c e = record { no_selector = tag_no_selector c e; no_link = tag_no_link c e; no_emoji = no_tag_is_emoji c e }

-- A plain character has one of three classes.
pub data PlainClass : Class → Type 0 where
  of_keycap : PlainClass keycap
  of_tag : PlainClass tag
  of_other : PlainClass other

pub plain_class : {c : ℕ} {k : Class} → HasClass c k → Plain c → PlainClass k
plain_class {c} (is_selector_lem s) p = absurd (true≢false (sym s ∙ p.no_selector))
plain_class {c} (is_link e) p = absurd (true≢false (sym (eq-eqb c 0x200D e) ∙ p.no_link))
plain_class {c} (is_keycap e) p = of_keycap
plain_class {c} (is_tag_lem e) p = of_tag
plain_class {c} (is_ri_lem r) p = absurd (true≢false (sym (ri_emoji c r) ∙ p.no_emoji))
plain_class {c} (is_modifier m) p = absurd (true≢false (sym (modifier_emoji c m) ∙ p.no_emoji))
plain_class {c} (is_emoji_lem e r m) p = absurd (true≢false (sym e ∙ p.no_emoji))
plain_class {c} (is_other o k t) p = of_other

-- A variation entry has the class emoji.
pub entry_class : (c : ℕ) → has_variation_sequence c ≡ true → class_of c ≡ emoji
unfolding VariationEntriesAreEmoji NoRegionalIndicatorIsEntry NoModifierIsEntry
entry_class c e =
    class_is
    (is_emoji_lem (variation_entries_are_emoji c e) (fails (is_ri c) (λ r. true≢false (sym e ∙ no_regional_indicator_is_entry c r)))
    (fails (is_emoji_modifier c) (λ m. true≢false (sym e ∙ no_modifier_is_entry c m))))
