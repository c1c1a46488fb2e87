-- `emoji::is_emoji_modifier` meets its contract: the table is in order (InOrder).
use Rattle.emoji.specs.Unicode.{is_emoji_modifier}
use Rattle.emoji.specs.UnicodeData.{emoji_modifiers}
use Rattle.emoji.proofs.InOrder.{emoji_modifiers_ascend}
use Rattle.emoji.proofs.is_emoji_modifier.Goals as goal

pub in_char_table-requires : goal.in_char_table-requires
unfolding emoji_modifiers
in_char_table-requires c = emoji_modifiers_ascend

pub returns : goal.returns
unfolding is_emoji_modifier emoji_modifiers
returns c = c.in_char_table.ensures
