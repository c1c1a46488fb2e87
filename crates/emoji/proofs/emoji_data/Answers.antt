-- `emoji::emoji_data` meets its contract: the character's bit and its index come from one block (BlockTables).
use mathlib.Core.Path.{sym, ap, ◌∙◌}
use Prim.Native.Nat.{◌%◌}
use Rattle.base.specs.Bits.{one}
use Rattle.emoji.specs.Blocks.{entry_in}
use Rattle.emoji.specs.declared.blocks.Block.{Block}
use Rattle.emoji.proofs.BlockTables.{emoji_bit, entry_place}
use Rattle.emoji.proofs.emoji_data.Goals as goal

pub returns : goal.returns
returns c =
    let ch = c.args.ch in
    let e = c.block_of-block.ensures in
    record {
      emoji = c.has_bit-is_emoji.ensures ∙ ap (λ (b : Block). one (ch % 64) b.emoji) e ∙ sym (emoji_bit ch);
      index = c.entry_in-index.ensures ∙ ap (entry_in (ch % 64)) e ∙ sym (entry_place ch);
    }
