-- `sheet_reading::cursor::or_offset` meets its contract.
use Rattle.std.specs.Option.{option_or}
use mathlib.Core.Path.{ap, ◌∙◌}
use Rattle.sheet_reading.proofs.Tracked.{or_is}
use Rattle.sheet_reading.proofs.cursor.or_offset.Goals as goal

pub returns : goal.returns
returns c =
    let a = c.args in
    c.or.ensures ∙ ap (option_or a.place) c.then_some.ensures ∙ or_is a.place a.is_found a.at
