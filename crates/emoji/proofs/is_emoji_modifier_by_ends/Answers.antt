-- `emoji::is_emoji_modifier_by_ends` meets its contract: the modifiers are the numbers of one range.
use mathlib.Core.Path.{◌∙◌}
use mathlib.Core.List.{[], ◌∷◌}
use Rattle.emoji.specs.Unicode.{is_emoji_modifier}
use Rattle.emoji.specs.UnicodeData.{emoji_modifiers}
use Rattle.emoji.proofs.RangeNumbers.{in_numbers, numbers_from, numbers_of, one_range}
use Rattle.emoji.proofs.is_emoji_modifier_by_ends.Goals as goal

pub returns : goal.returns
unfolding is_emoji_modifier emoji_modifiers numbers_of numbers_from
returns c =
    let ch = c.args.ch in
    c.is_within.ensures ∙ one_range 0x1F3FB 0x1F3FF ch ∙ in_numbers ch (0x1F3FB ∷ 0x1F3FF ∷ [])
