-- `sheet_reading::cursor::dash_step` meets its contract.
use Rattle.sheet_reading.proofs.Tracked.{dash_on, dash_ranged, dash_stop}
use Rattle.sheet_reading.proofs.cursor.dash_step.Goals as goal

pub returns-in-Some : goal.returns-in-Some
returns-in-Some c at r n h = dash_ranged c.args.c at r h c.in-Some.is

pub returns-then-is_allowed : goal.returns-then-is_allowed
returns-then-is_allowed c at r n h =
    dash_on c.args.c at r h c.in_default.is
    c.is_allowed.ensures c.if-is_allowed.true n (c.after_dash.ensures r h)

pub returns : goal.returns
returns c at r n h =
    dash_stop c.args.c at r h c.in_default.is
    c.is_allowed.ensures c.if-is_allowed.false
