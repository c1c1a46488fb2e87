-- `emoji::has_variation_sequence_by_block` meets its contract: the character's bit is in its block (BlockTables).
use mathlib.Core.Path.{sym, ap, ◌∙◌}
use Prim.Native.Nat.{◌%◌}
use Rattle.base.specs.Bits.{one}
use Rattle.emoji.specs.declared.blocks.Block.{Block}
use Rattle.emoji.proofs.BlockTables.{entry_bit}
use Rattle.emoji.proofs.has_variation_sequence_by_block.Goals as goal

pub returns : goal.returns
returns c =
    let ch = c.args.ch in
    c.has_bit.ensures ∙ ap (λ (b : Block). one (ch % 64) b.entries) c.block_of-block.ensures ∙ sym (entry_bit ch)
