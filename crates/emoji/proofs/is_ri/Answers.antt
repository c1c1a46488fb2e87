-- `emoji::is_ri` meets its contract: the table is in order (InOrder).
use Rattle.emoji.specs.Unicode.{is_ri}
use Rattle.emoji.specs.UnicodeData.{ri_ranges}
use Rattle.emoji.proofs.InOrder.{ri_ranges-apart}
use Rattle.emoji.proofs.is_ri.Goals as goal

pub in_ranges-requires : goal.in_ranges-requires
unfolding ri_ranges
in_ranges-requires c = ri_ranges-apart

pub returns : goal.returns
unfolding is_ri ri_ranges
returns c = c.in_ranges.ensures
