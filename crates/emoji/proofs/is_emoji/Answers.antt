-- `emoji::is_emoji` meets its contract: the table is in order (InOrder).
use Rattle.emoji.specs.Unicode.{is_emoji}
use Rattle.emoji.specs.UnicodeData.{emoji_ranges}
use Rattle.emoji.proofs.InOrder.{emoji_ranges-apart}
use Rattle.emoji.proofs.is_emoji.Goals as goal

pub in_ranges-requires : goal.in_ranges-requires
unfolding emoji_ranges
in_ranges-requires c = emoji_ranges-apart

pub returns : goal.returns
unfolding is_emoji emoji_ranges
returns c = c.in_ranges.ensures
