-- The proof of each statement of specs/Theorems.antt.
use Rattle.std.specs.Prelude.{Some, None, Option}
use mathlib.Core.Path.{◌≡◌, refl, sym, ap, ◌∙◌, subst}
use mathlib.Core.Logic.{⊎_elim}
use mathlib.Core.Bool.{Bool, true, false, cond, not, true≢false}
use Prim.Native.Nat.{ℕ}
use lib.Dec.{eqb}
use borrow.Author.Tests.{eqb-true, not-true}
use Rattle.emoji.specs.UnicodeData.{
  emoji_modifiers,
  emoji_ranges,
  ri_ranges,
  variation_entries,
}
use Rattle.emoji.specs.Tables.{in_ranges, index_of, member, ranges_apart}
use Rattle.emoji.specs.Unicode.{
  has_variation_sequence,
  is_emoji,
  is_emoji_modifier,
  is_ri,
  is_tag,
  variation_entry,
  variation_sequence_index,
}
use Rattle.emoji.specs.Presentation.{as_selector, from_selector, is_selector}
use Rattle.emoji.specs.declared.presentation.Presentation.{Presentation}
use Rattle.emoji.specs.declared.presentation.Presentation.TheVariants.{Emoji, Text}
use Rattle.emoji.specs.Theorems.{
  AscendingMeans,
  IndexIsPlace,
  LinkAndKeycapAreNotEmoji,
  ModifiersAreEmoji,
  NoIndexNoEntry,
  NoModifierIsEntry,
  NoRegionalIndicatorIsEntry,
  NoSelectorIsEmoji,
  NoTagIsEmoji,
  RangesApartMeans,
  RegionalIndicatorsAreEmoji,
  SelectorsArePresentations,
  TablesInOrder,
  VariationEntriesAreEmoji,
}
use Rattle.base.proofs.Tests.{either_true, fails}
use Rattle.emoji.proofs.Ascent.{ascending_lt, index_holds, is_at, member_index, place_is_index}
use Rattle.emoji.proofs.Ranges.{range_ordered, ranges_lt}
use Rattle.emoji.proofs.Between.{every, every-member, every_range_lem, every_range, lies_in, lies_out, lies_in_lem, lies_out_lem}
use Rattle.emoji.proofs.InOrder.{
  emoji_modifier_bases_ascend,
  emoji_modifiers_ascend,
  emoji_presentation_ranges-apart,
  emoji_ranges-apart,
  ri_ranges-apart,
  variation_entries_ascend,
}

pub tables_in_order : TablesInOrder
unfolding TablesInOrder
tables_in_order = (
  emoji_ranges-apart,
  emoji_presentation_ranges-apart,
  emoji_modifiers_ascend,
  emoji_modifier_bases_ascend,
  ri_ranges-apart,
  variation_entries_ascend,
)

pub ascending_means : AscendingMeans
unfolding AscendingMeans
ascending_means = ascending_lt

pub ranges_apart_means : RangesApartMeans
unfolding RangesApartMeans ranges_apart
ranges_apart_means t h = ((λ k l. (range_ordered 0 t h k l).1), ranges_lt 0 t h)

pub modifiers_are_emoji : ModifiersAreEmoji
unfolding ModifiersAreEmoji is_emoji_modifier is_emoji in_ranges every emoji_modifiers emoji_ranges
modifiers_are_emoji = every-member is_emoji emoji_modifiers refl

pub regional_indicators_are_emoji : RegionalIndicatorsAreEmoji
unfolding RegionalIndicatorsAreEmoji is_ri is_emoji lies_in_lem every_range ri_ranges emoji_ranges
regional_indicators_are_emoji =
    every_range_lem (lies_in_lem emoji_ranges) (λ c. is_emoji c ≡ true) (λ a e c w t. lies_in a e c w emoji_ranges t) ri_ranges refl

pub no_selector_is_emoji : NoSelectorIsEmoji
unfolding NoSelectorIsEmoji is_selector is_emoji in_ranges emoji_ranges
no_selector_is_emoji c s =
    ⊎_elim (λ e. subst (λ (x : ℕ). is_emoji x ≡ false) (sym (eqb-true c 0xFE0E e)) refl)
    (λ e. subst (λ (x : ℕ). is_emoji x ≡ false) (sym (eqb-true c 0xFE0F e)) refl) (either_true (eqb c 0xFE0E) (eqb c 0xFE0F) s)

pub link_and_keycap_are_not_emoji : LinkAndKeycapAreNotEmoji
unfolding LinkAndKeycapAreNotEmoji is_emoji in_ranges emoji_ranges
link_and_keycap_are_not_emoji = (refl, refl)

pub no_tag_is_emoji : NoTagIsEmoji
unfolding NoTagIsEmoji is_tag is_emoji lies_out_lem emoji_ranges
no_tag_is_emoji c t = lies_out 0xE0020 0xE007F c t emoji_ranges refl

pub no_regional_indicator_is_entry : NoRegionalIndicatorIsEntry
unfolding NoRegionalIndicatorIsEntry is_ri has_variation_sequence in_ranges every ri_ranges variation_entries
no_regional_indicator_is_entry c r =
    fails (has_variation_sequence c) (λ e. true≢false
    (sym r ∙ not-true (is_ri c) (every-member (λ x. not (is_ri x)) variation_entries refl c e)))

pub no_modifier_is_entry : NoModifierIsEntry
unfolding NoModifierIsEntry is_emoji_modifier has_variation_sequence member every emoji_modifiers variation_entries
no_modifier_is_entry c m =
    not-true (has_variation_sequence c) (every-member (λ x. not (has_variation_sequence x)) emoji_modifiers refl c m)

pub variation_entries_are_emoji : VariationEntriesAreEmoji
unfolding VariationEntriesAreEmoji has_variation_sequence is_emoji in_ranges every variation_entries emoji_ranges
variation_entries_are_emoji = every-member is_emoji variation_entries refl

pub index_is_place : IndexIsPlace
unfolding IndexIsPlace variation_sequence_index variation_entry
index_is_place c i = (index_holds c variation_entries i, place_is_index variation_entries variation_entries_ascend c i)

pub no_index_no_entry : NoIndexNoEntry
unfolding NoIndexNoEntry variation_sequence_index has_variation_sequence is_at
no_index_no_entry c = (
  λ e. member_index c variation_entries ∙ ap is_at e,
  λ m. no_place (index_of c variation_entries) (sym (member_index c variation_entries) ∙ m),
)
  where
    no_place : (r : Option ℕ) → is_at r ≡ false → r ≡ None
    no_place (Some i) e = cc
    no_place None e = refl

pub selectors_are_presentations : SelectorsArePresentations
unfolding SelectorsArePresentations as_selector from_selector
selectors_are_presentations = (back, forth)
  where
    back : (p : Presentation) → from_selector (as_selector p) ≡ Some p
    back Text = refl
    back Emoji = refl

    go : (c : ℕ) (p : Presentation) (s t : Bool) → eqb c 0xFE0E ≡ s → eqb c 0xFE0F ≡ t
        → cond s (Some Text) (cond t (Some Emoji) None) ≡ Some p → c ≡ as_selector p
    go c Text true t e f q = eqb-true c 0xFE0E e
    go c Emoji true t e f q = cc
    go c Text false true e f q = cc
    go c Emoji false true e f q = eqb-true c 0xFE0F f
    go c p false false e f q = cc

    forth : (c : ℕ) (p : Presentation) → from_selector c ≡ Some p → c ≡ as_selector p
    forth c p q = go c p (eqb c 0xFE0E) (eqb c 0xFE0F) refl refl q
