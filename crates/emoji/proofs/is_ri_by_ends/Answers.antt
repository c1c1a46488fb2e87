-- `emoji::is_ri_by_ends` meets its contract: the table has one range.
use mathlib.Core.Path.{◌∙◌}
use Rattle.emoji.specs.Unicode.{is_ri}
use Rattle.emoji.specs.UnicodeData.{ri_ranges}
use Rattle.emoji.proofs.RangeNumbers.{one_range}
use Rattle.emoji.proofs.is_ri_by_ends.Goals as goal

pub returns : goal.returns
unfolding is_ri ri_ranges
returns c = c.is_within.ensures ∙ one_range 0x1F1E6 0x1F1FF c.args.ch
