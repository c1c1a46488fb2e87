-- `emoji::variation_sequence_index` meets its contract: the table is in order (InOrder).
use Rattle.emoji.specs.Unicode.{variation_sequence_index}
use Rattle.emoji.specs.UnicodeData.{variation_entries}
use Rattle.emoji.proofs.InOrder.{variation_entries_ascend}
use Rattle.emoji.proofs.variation_sequence_index.Goals as goal

pub binary_search-requires : goal.binary_search-requires
unfolding variation_entries
binary_search-requires c = variation_entries_ascend

pub returns : goal.returns
unfolding variation_sequence_index variation_entries
returns c = c.binary_search.ensures
