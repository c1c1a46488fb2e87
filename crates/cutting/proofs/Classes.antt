-- Whether a character may begin the second part depends on its class alone.
use mathlib.Core.Path.{◌≡◌, refl, sym, ◌∙◌, subst}
use mathlib.Core.Bool.{false, true≢false}
use Prim.Native.Nat.{ℕ}
use Rattle.base.proofs.Tests.{fails}
use Rattle.emoji.specs.Presentation.{is_selector}
use Rattle.emoji.specs.Tables.{member}
use Rattle.emoji.specs.Unicode.{is_emoji, is_emoji_modifier, is_tag}
use Rattle.emoji.specs.UnicodeData.{emoji_modifiers}
use Rattle.emoji.specs.Theorems.{NoTagIsEmoji}
use Rattle.emoji.proofs.Claims.{no_tag_is_emoji}
use Rattle.scanner.specs.Classes.{class_of}
use Rattle.scanner.specs.declared.char_class.Class.{Class}
use Rattle.scanner.specs.declared.char_class.Class.TheVariants.{Keycap as keycap, Link as link}
use Rattle.scanner.proofs.Classes.{
  HasClass,
  emoji_no_keycap,
  emoji_no_selector,
  emoji_no_tag,
  has_class,
  is_emoji_lem,
  is_keycap,
  is_link,
  is_modifier,
  is_other,
  is_ri_lem,
  is_selector_lem,
  is_tag_lem,
  modifier_emoji,
  modifier_no_ri,
  ri_emoji,
  tag_no_keycap,
  tag_no_selector,
}
use Rattle.cutting.specs.Cut.{may_begin}
use Rattle.cutting.specs.Helpers.{class_may_begin}

no_modifier : (c : ℕ) → is_emoji c ≡ false → is_emoji_modifier c ≡ false
no_modifier c e = fails (is_emoji_modifier c) (λ m. true≢false (sym (modifier_emoji c m) ∙ e))

of_class : {c : ℕ} {k : Class} → HasClass c k → may_begin c ≡ class_may_begin k
unfolding may_begin is_selector is_emoji_modifier member emoji_modifiers is_tag NoTagIsEmoji
of_class {c} (is_selector_lem s) = simp s
of_class {c} (is_link e) = subst (λ (x : ℕ). may_begin x ≡ class_may_begin link) (sym e) refl
of_class {c} (is_keycap e) = subst (λ (x : ℕ). may_begin x ≡ class_may_begin keycap) (sym e) refl
of_class {c} (is_tag_lem t) = simp (tag_no_selector c t, no_modifier c (no_tag_is_emoji c t), tag_no_keycap c t, t)
of_class {c} (is_ri_lem r) =
    let e = ri_emoji c r in
    let m = fails (is_emoji_modifier c) (λ m. true≢false (sym r ∙ modifier_no_ri c m)) in
    simp (emoji_no_selector c e, m, emoji_no_keycap c e, emoji_no_tag c e)
of_class {c} (is_modifier m) = let e = modifier_emoji c m in simp (emoji_no_selector c e, m)
of_class {c} (is_emoji_lem e r m) = simp (emoji_no_selector c e, m, emoji_no_keycap c e, emoji_no_tag c e)
of_class {c} (is_other p k t) = simp (p.no_selector, no_modifier c p.no_emoji, k, t)

pub by_class : (c : ℕ) → may_begin c ≡ class_may_begin (class_of c)
by_class c = of_class (has_class c)
