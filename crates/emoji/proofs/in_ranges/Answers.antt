-- `emoji::in_ranges` meets its contract, by what std's search answers.
use Rattle.emoji.proofs.Ranges.{found_end, found_place}
use Rattle.emoji.proofs.in_ranges.Goals as goal

pub returns-in-Ok : goal.returns-in-Ok
returns-in-Ok c = found_end c.args.ch c.args.ranges.now c.requires c.in-Ok.field-0 c.in-Ok.ensures.position

pub returns-in-Err : goal.returns-in-Err
returns-in-Err c = found_place c.args.ch c.args.ranges.now c.requires c.in-Err.place c.in-Err.ensures.position
