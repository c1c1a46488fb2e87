-- `item_parts::consume_emoji_like` meets its contract: the modifications are read where the stem ends.
use mathlib.Core.Path.{sym, ◌∙◌}
use Rattle.item_parts.proofs.UnitsAt.{some_stem, unit_off, unit_on}
use Rattle.item_parts.proofs.consume_emoji_like.Goals as goal

pub returns-in_default : goal.returns-in_default
returns-in_default c =
    let x = c.args in
    unit_off x.text.now x.at (c.consume_emoji_stem.ensures) c.in_default.is

pub returns : goal.returns
returns c =
    let x = c.args in
    unit_on x.text.now x.at (sym c.in-Some.is ∙ c.consume_emoji_stem.ensures) some_stem c.end-modifiers_start.ensures
    c.consume_emoji_modifications-end.ensures
