-- The predicates of unicode.rs, for every number: document 01, "Character".
use Rattle.std.specs.Prelude.{Bool, ◌&&◌, not, ℕ, Option}
use Rattle.base.specs.Ranges.{within}
use Rattle.emoji.specs.Tables.{entry_at, in_ranges, index_of, member}
use Rattle.emoji.specs.UnicodeData.{
  emoji_modifier_bases,
  emoji_modifiers,
  emoji_presentation_ranges,
  emoji_ranges,
  ri_ranges,
  variation_entries,
}

-- "Tags: E0020 to E007F"
unfoldable pub is_tag : ℕ → Bool
is_tag c = within 0xE0020 0xE007F c

-- The properties Emoji, Emoji_Presentation, Emoji_Modifier and Emoji_Modifier_Base of emoji-data.txt.
unfoldable pub is_emoji : ℕ → Bool
is_emoji c = in_ranges c emoji_ranges

unfoldable pub is_emoji_presentation : ℕ → Bool
is_emoji_presentation c = in_ranges c emoji_presentation_ranges

unfoldable pub is_emoji_modifier : ℕ → Bool
is_emoji_modifier c = member c emoji_modifiers

unfoldable pub is_emoji_modifier_base : ℕ → Bool
is_emoji_modifier_base c = member c emoji_modifier_bases

-- The character is a regional indicator.
unfoldable pub is_ri : ℕ → Bool
is_ri c = in_ranges c ri_ranges

-- The character is a variation entry.
unfoldable pub has_variation_sequence : ℕ → Bool
has_variation_sequence c = member c variation_entries

-- "A base is emoji-default when it is a variation entry and in EMOJI_PRESENTATION_RANGES"
unfoldable pub is_emoji_default : ℕ → Bool
is_emoji_default c = has_variation_sequence c && is_emoji_presentation c

-- The variation entries that are not emoji-default.
unfoldable pub is_text_default : ℕ → Bool
is_text_default c = has_variation_sequence c && not (is_emoji_presentation c)

-- The index of a character in the list of the variation entries, and the entry at an index: "entry i".
unfoldable pub variation_sequence_index : ℕ → Option ℕ
variation_sequence_index c = index_of c variation_entries

unfoldable pub variation_entry : ℕ → Option ℕ
variation_entry i = entry_at i variation_entries
