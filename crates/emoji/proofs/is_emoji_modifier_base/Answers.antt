-- `emoji::is_emoji_modifier_base` meets its contract: the table is in order (InOrder).
use Rattle.emoji.specs.Unicode.{is_emoji_modifier_base}
use Rattle.emoji.specs.UnicodeData.{emoji_modifier_bases}
use Rattle.emoji.proofs.InOrder.{emoji_modifier_bases_ascend}
use Rattle.emoji.proofs.is_emoji_modifier_base.Goals as goal

pub in_char_table-requires : goal.in_char_table-requires
unfolding emoji_modifier_bases
in_char_table-requires c = emoji_modifier_bases_ascend

pub returns : goal.returns
unfolding is_emoji_modifier_base emoji_modifier_bases
returns c = c.in_char_table.ensures
