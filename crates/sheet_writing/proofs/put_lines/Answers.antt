-- `sheet_writing::put_lines` meets its contract: the four lines one after the other.
use Rattle.sheet_writing.proofs.Lines.{first-room, fourth_room, second-room, sheet_put, third_room}
use Rattle.sheet_writing.proofs.put_lines.Goals as goal

pub put_ended_line-second-requires : goal.put_ended_line-second-requires
put_ended_line-second-requires c = first-room c.args.policy c.args.out.now c.requires

pub put_ended_line-third-requires : goal.put_ended_line-third-requires
put_ended_line-third-requires c = second-room c.args.policy c.put_ended_line-second.ensures c.requires

pub put_ended_line-fourth-requires : goal.put_ended_line-fourth-requires
put_ended_line-fourth-requires c = third_room c.args.policy c.put_ended_line-second.ensures c.put_ended_line-third.ensures c.requires

pub put_ended_line-requires : goal.put_ended_line-requires
put_ended_line-requires c = fourth_room c.args.policy c.put_ended_line-second.ensures c.put_ended_line-third.ensures
    c.put_ended_line-fourth.ensures c.requires

pub returns : goal.returns
returns c =
    sheet_put c.args.policy c.put_ended_line-second.ensures c.put_ended_line-third.ensures c.put_ended_line-fourth.ensures
    c.put_ended_line.ensures
