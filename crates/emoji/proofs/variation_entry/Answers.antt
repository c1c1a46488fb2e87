-- `emoji::variation_entry` meets its contract: the array is the list of the 354 entries.
use Rattle.emoji.specs.Unicode.{variation_entry}
use Rattle.emoji.specs.UnicodeData.{variation_entries}
use Rattle.emoji.proofs.variation_entry.Goals as goal

pub returns : goal.returns
unfolding variation_entry variation_entries
returns c = c.entry_at.ensures
