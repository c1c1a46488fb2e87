-- The computed test of each table: it is strictly ascending, or its ranges never touch or overlap.
use mathlib.Core.Path.{◌≡◌, refl}
use mathlib.Core.Bool.{true}
use Rattle.emoji.specs.Tables.{ascending, ascending_from, ranges_apart, ranges_apart_from}
use Rattle.emoji.specs.UnicodeData.{
  emoji_modifier_bases,
  emoji_modifiers,
  emoji_presentation_ranges,
  emoji_ranges,
  ri_ranges,
  variation_entries,
}

pub emoji_ranges-apart : ranges_apart emoji_ranges ≡ true
unfolding ranges_apart ranges_apart_from emoji_ranges
emoji_ranges-apart = refl

pub emoji_presentation_ranges-apart : ranges_apart emoji_presentation_ranges ≡ true
unfolding ranges_apart ranges_apart_from emoji_presentation_ranges
emoji_presentation_ranges-apart = refl

pub emoji_modifiers_ascend : ascending emoji_modifiers ≡ true
unfolding ascending ascending_from emoji_modifiers
emoji_modifiers_ascend = refl

pub emoji_modifier_bases_ascend : ascending emoji_modifier_bases ≡ true
unfolding ascending ascending_from emoji_modifier_bases
emoji_modifier_bases_ascend = refl

pub ri_ranges-apart : ranges_apart ri_ranges ≡ true
unfolding ranges_apart ranges_apart_from ri_ranges
ri_ranges-apart = refl

pub variation_entries_ascend : ascending variation_entries ≡ true
unfolding ascending ascending_from variation_entries
variation_entries_ascend = refl
