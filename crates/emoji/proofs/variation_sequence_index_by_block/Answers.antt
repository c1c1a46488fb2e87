-- `emoji::variation_sequence_index_by_block` meets its contract: the character's index comes from its block (BlockTables).
use mathlib.Core.Path.{sym, ap, ◌∙◌}
use Prim.Native.Nat.{◌%◌}
use Rattle.emoji.specs.Blocks.{entry_in}
use Rattle.emoji.proofs.BlockTables.{entry_place}
use Rattle.emoji.proofs.variation_sequence_index_by_block.Goals as goal

pub returns : goal.returns
returns c =
    let ch = c.args.ch in
    c.entry_in.ensures ∙ ap (entry_in (ch % 64)) c.block_of.ensures ∙ sym (entry_place ch)
