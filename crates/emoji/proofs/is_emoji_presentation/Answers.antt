-- `emoji::is_emoji_presentation` meets its contract: the table is in order (InOrder).
use Rattle.emoji.specs.Unicode.{is_emoji_presentation}
use Rattle.emoji.specs.UnicodeData.{emoji_presentation_ranges}
use Rattle.emoji.proofs.InOrder.{emoji_presentation_ranges-apart}
use Rattle.emoji.proofs.is_emoji_presentation.Goals as goal

pub in_ranges-requires : goal.in_ranges-requires
unfolding emoji_presentation_ranges
in_ranges-requires c = emoji_presentation_ranges-apart

pub returns : goal.returns
unfolding is_emoji_presentation emoji_presentation_ranges
returns c = c.in_ranges.ensures
