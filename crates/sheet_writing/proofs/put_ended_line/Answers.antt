-- `sheet_writing::put_ended_line` meets its contract: the line, then the byte 0A.
use native.Mathlib.Omega.{arith}
use Rattle.sheet_writing.proofs.EntryTexts.{put_length}
use Rattle.sheet_writing.proofs.Lines.{ended_put, ended-room, line-room}
use Rattle.sheet_writing.proofs.put_ended_line.Goals as goal

pub put_line-end-requires : goal.put_line-end-requires
put_line-end-requires c = line-room c.args.out.now c.args.start c.args.set.bits c.requires

pub bounds-out-end : goal.bounds-out-end
bounds-out-end c = ended-room c.args.set.bits c.put_line-end.ensures c.requires

pub overflow_add-result : goal.overflow_add-result
overflow_add-result c =
    let e = c.put_line-end.ensures in
    omega (arith, ended-room c.args.set.bits e c.requires, put_length c.args.out.now e, c.well_formed.0.0)

pub shape_of-out : goal.shape_of-out
shape_of-out c = put_length c.args.out.now (ended_put c.args.set.bits c.put_line-end.ensures)

pub returns : goal.returns
returns c = ended_put c.args.set.bits c.put_line-end.ensures
