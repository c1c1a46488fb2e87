-- The sentences of document 01, "Character", about the tables, each as a statement about every number; and the meaning of the two tests
-- of order, for tables of any length. The proofs are in proofs/Claims.antt.
use Rattle.std.specs.Prelude.{◌≡◌, ◌↔◌, true, false, List, ℕ, suc, ◌+◌, ◌*◌, ◌/◌, ◌<◌, ◌≤◌, get_or, length, Some, None}
use Rattle.emoji.specs.UnicodeData.{
  emoji_modifier_bases,
  emoji_modifiers,
  emoji_presentation_ranges,
  emoji_ranges,
  ri_ranges,
  variation_entries,
}
use Rattle.emoji.specs.Tables.{ascending, ranges_apart}
use Rattle.emoji.specs.Unicode.{
  has_variation_sequence,
  is_emoji,
  is_emoji_modifier,
  is_ri,
  is_tag,
  variation_entry,
  variation_sequence_index,
}
use Rattle.emoji.specs.Presentation.{as_selector, from_selector, is_selector}
use Rattle.emoji.specs.declared.presentation.Presentation.{Presentation}

-- "Every table is strictly ascending and its ranges never touch or overlap."
unfoldable pub TablesInOrder : Type 0
TablesInOrder =
    (ranges_apart emoji_ranges ≡ true)
    × (ranges_apart emoji_presentation_ranges ≡ true)
    × (ascending emoji_modifiers ≡ true)
    × (ascending emoji_modifier_bases ≡ true)
    × (ranges_apart ri_ranges ≡ true)
    × (ascending variation_entries ≡ true)

-- The meaning of `ascending`: of two numbers of the table, the earlier is the smaller.
unfoldable pub AscendingMeans : Type 0
AscendingMeans =
    (t : List ℕ) → ascending t ≡ true → (j k : ℕ) → j < k → k < length t → get_or t j 0 < get_or t k 0

-- The meaning of `ranges_apart`: a range's first number is at most its last, and of two ranges, the earlier ends at least two numbers
-- before the later starts.
unfoldable pub RangesApartMeans : Type 0
RangesApartMeans =
    (t : List ℕ) → ranges_apart t ≡ true
    → ((k : ℕ) → k < length t / 2 → get_or t (2 * k) 0 ≤ get_or t (2 * k + 1) 0)
    × ((j k : ℕ) → j < k → k < length t / 2 → suc (get_or t (2 * j + 1) 0) < get_or t (2 * k) 0)

-- "Every modifier and RI is emoji."
unfoldable pub ModifiersAreEmoji : Type 0
ModifiersAreEmoji = (c : ℕ) → is_emoji_modifier c ≡ true → is_emoji c ≡ true

unfoldable pub RegionalIndicatorsAreEmoji : Type 0
RegionalIndicatorsAreEmoji = (c : ℕ) → is_ri c ≡ true → is_emoji c ≡ true

-- "No selector, 200D, 20E3 or tag is emoji."
unfoldable pub NoSelectorIsEmoji : Type 0
NoSelectorIsEmoji = (c : ℕ) → is_selector c ≡ true → is_emoji c ≡ false

unfoldable pub LinkAndKeycapAreNotEmoji : Type 0
LinkAndKeycapAreNotEmoji = (is_emoji 0x200D ≡ false) × (is_emoji 0x20E3 ≡ false)

unfoldable pub NoTagIsEmoji : Type 0
NoTagIsEmoji = (c : ℕ) → is_tag c ≡ true → is_emoji c ≡ false

-- "No RI or modifier has a variation entry."
unfoldable pub NoRegionalIndicatorIsEntry : Type 0
NoRegionalIndicatorIsEntry = (c : ℕ) → is_ri c ≡ true → has_variation_sequence c ≡ false

unfoldable pub NoModifierIsEntry : Type 0
NoModifierIsEntry = (c : ℕ) → is_emoji_modifier c ≡ true → has_variation_sequence c ≡ false

-- Every variation entry is emoji. Document 01 does not say so; the tables of this Unicode version do.
unfoldable pub VariationEntriesAreEmoji : Type 0
VariationEntriesAreEmoji = (c : ℕ) → has_variation_sequence c ≡ true → is_emoji c ≡ true

-- The index of a character is the only index whose entry is the character. A character has no index exactly when it is no variation
-- entry.
unfoldable pub IndexIsPlace : Type 0
IndexIsPlace = (c i : ℕ) → (variation_sequence_index c ≡ Some i) ↔ (variation_entry i ≡ Some c)

unfoldable pub NoIndexNoEntry : Type 0
NoIndexNoEntry = (c : ℕ) → (variation_sequence_index c ≡ None) ↔ (has_variation_sequence c ≡ false)

-- `as_selector` and `from_selector` are inverse: each presentation has one selector, and no other character requests it.
unfoldable pub SelectorsArePresentations : Type 0
SelectorsArePresentations =
    ((p : Presentation) → from_selector (as_selector p) ≡ Some p)
    × ((c : ℕ) (p : Presentation) → from_selector c ≡ Some p → c ≡ as_selector p)
