-- `emoji::binary_search` meets its contract: std's search answers the index (`found_index`).
use mathlib.Core.Path.{◌∙◌}
use Rattle.emoji.proofs.Ascent.{found_index}
use Rattle.emoji.proofs.binary_search.Goals as goal

pub returns : goal.returns
returns c = c.ok.ensures.value ∙ found_index c.args.ch c.args.table.now _ c.requires c.binary_search.ensures.position
