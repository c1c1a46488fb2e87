-- Contracts of helper functions (src/blocks.rt, and `entry_in` of src/lib.rt); no public contract rests on this file.
-- Blocks of 64 code points. A block has the bits of its emoji, the bits of its variation entries, and the number of entries before it.
-- Document 01 has no blocks: the fast forms use them, and proofs/BlockTables.antt proves that they hold document 01's tables.
use Rattle.std.specs.Prelude.{cond, List, [], ◌∷◌, ℕ, ◌+◌, ◌-◌, ◌%◌, ◌^◌, eqb, Some, None, Option}
use Rattle.std.specs.Int.Count.{ones}
use Rattle.base.specs.Bits.{one}
use Rattle.emoji.specs.declared.blocks.Block.{Block}

-- A block and its number. Block k has the 64 code points from 64 k on.
pub record BlockRow : Type 0 where
  pub key : ℕ
  pub block : Block

abbrev pub row : ℕ → ℕ → ℕ → ℕ → BlockRow
row k emoji entries rank = record { key = k; block = record { emoji = emoji; entries = entries; rank = rank } }

-- A block without emoji and variation entries.
unfoldable pub no_block : Block
no_block = record { emoji = 0; entries = 0; rank = 0 }

-- The block with the number k in a list, or the empty block.
unfoldable pub block_in : ℕ → List BlockRow → Block
block_in k [] = no_block
block_in k (r ∷ rs) = cond (eqb r.key k) r.block (block_in k rs)

-- The list with n subtracted from each block's number.
unfoldable pub moved : ℕ → List BlockRow → List BlockRow
moved n [] = []
moved n (r ∷ rs) = record { key = r.key - n; block = r.block } ∷ moved n rs

-- The index of character j of a block in the list of the variation entries: the number of entries before the block plus the number of
-- the block's entries below j.
unfoldable pub entry_in : ℕ → Block → Option ℕ
entry_in j b = cond (one j b.entries) (Some (b.rank + ones (b.entries % 2 ^ j))) None
