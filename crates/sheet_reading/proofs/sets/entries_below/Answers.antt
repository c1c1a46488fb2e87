-- `sheet_reading::sets::entries_below` meets its contract: the entries ascend.
use Rattle.std.proofs.Common.{of_calls, rules}
use Rattle.std.proofs.lemmas.Fn.{always_returns_same}
use Rattle.emoji.specs.UnicodeData.{variation_entries}
use Rattle.sheet_reading.proofs.RangeSets.{is_below, parted-entries, point_below}
use Rattle.sheet_reading.proofs.sets.entries_below.Goals as goal

pub returns-clause-below : goal.returns-clause-below
unfolding variation_entries
returns-clause-below c =
    point_below c.args.ch (c.partition_point.ensures.partitioned (is_below c.args.ch)
    (always_returns_same _ _ _ (λ a r f k. search (rules, of_calls))) (parted-entries c.args.ch))
