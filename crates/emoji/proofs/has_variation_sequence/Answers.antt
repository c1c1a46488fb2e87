-- `emoji::has_variation_sequence` meets its contract: the table is in order (InOrder).
use Rattle.emoji.specs.Unicode.{has_variation_sequence}
use Rattle.emoji.specs.UnicodeData.{variation_entries}
use Rattle.emoji.proofs.InOrder.{variation_entries_ascend}
use Rattle.emoji.proofs.has_variation_sequence.Goals as goal

pub in_char_table-requires : goal.in_char_table-requires
unfolding variation_entries
in_char_table-requires c = variation_entries_ascend

pub returns : goal.returns
unfolding has_variation_sequence variation_entries
returns c = c.in_char_table.ensures
