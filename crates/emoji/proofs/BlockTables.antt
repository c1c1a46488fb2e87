-- The blocks hold the tables. One computed test shows that the ones of the blocks are the numbers of the table, in order. So each
-- predicate is one bit of the character's block.
use mathlib.Core.Path.{◌≡◌, refl, ap, ◌∙◌}
use mathlib.Core.Bool.{true}
use Prim.Native.Nat.{ℕ, ◌/◌, ◌%◌}
use Rattle.base.specs.Bits.{one}
use Rattle.emoji.specs.Blocks.{block_in, entry_in, no_block}
use Rattle.emoji.specs.BlockData.{blocks, low_blocks, middle_blocks, pictograph_blocks, symbol_blocks}
use Rattle.emoji.specs.Tables.{index_of, member}
use Rattle.emoji.specs.Unicode.{has_variation_sequence, is_emoji, variation_sequence_index}
use Rattle.emoji.specs.UnicodeData.{emoji_ranges, variation_entries}
use Rattle.emoji.specs.declared.blocks.Block.{Block}
use Rattle.emoji.proofs.Ascent.{member_index}
use Rattle.emoji.proofs.BlockBits.{
  entry_in_block,
  found_in_block,
  keep,
  ones_from,
  ones_of,
  plus_zero,
  rank_from,
}
use Rattle.emoji.proofs.BlockSearch.{ascend_from}
use Rattle.emoji.proofs.RangeNumbers.{in_numbers, numbers_from, numbers_of}

abbrev emoji_word : Block → ℕ
emoji_word b = b.emoji

abbrev entries_word : Block → ℕ
entries_word b = b.entries

blocks_ascend : ascend_from 0 blocks ≡ true
unfolding ascend_from blocks low_blocks symbol_blocks middle_blocks pictograph_blocks
blocks_ascend = refl

blocks_rank : rank_from 0 blocks ≡ true
unfolding rank_from ones_from keep blocks low_blocks symbol_blocks middle_blocks pictograph_blocks
blocks_rank = refl

blocks_hold_emoji : numbers_of emoji_ranges ≡ ones_of emoji_word blocks
unfolding numbers_of numbers_from emoji_ranges ones_of ones_from keep blocks low_blocks symbol_blocks middle_blocks pictograph_blocks
blocks_hold_emoji = refl

blocks_hold_entries : variation_entries ≡ ones_of entries_word blocks
unfolding variation_entries ones_of ones_from keep blocks low_blocks symbol_blocks middle_blocks pictograph_blocks
blocks_hold_entries = refl

pub emoji_bit : (c : ℕ) → is_emoji c ≡ one (c % 64) (block_in (c / 64) blocks).emoji
unfolding is_emoji no_block
emoji_bit c =
    in_numbers c emoji_ranges ∙ ap (member c) blocks_hold_emoji ∙ member_index c (ones_of emoji_word blocks)
    ∙ found_in_block emoji_word c 0 blocks blocks_ascend refl

pub entry_bit : (c : ℕ) → has_variation_sequence c ≡ one (c % 64) (block_in (c / 64) blocks).entries
unfolding has_variation_sequence no_block
entry_bit c =
    ap (member c) blocks_hold_entries ∙ member_index c (ones_of entries_word blocks)
    ∙ found_in_block entries_word c 0 blocks blocks_ascend refl

pub entry_place : (c : ℕ) → variation_sequence_index c ≡ entry_in (c % 64) (block_in (c / 64) blocks)
unfolding variation_sequence_index
entry_place c =
    ap (index_of c) blocks_hold_entries ∙ plus_zero (index_of c (ones_of entries_word blocks))
    ∙ entry_in_block c 0 0 blocks blocks_ascend blocks_rank
