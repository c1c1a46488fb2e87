-- `sheet_writing::put_marked` meets its contract.
use Rattle.sheet_writing.proofs.EntryTexts.{marked_put, marked-room, put_length}
use Rattle.sheet_writing.proofs.put_marked.Goals as goal

pub put_point-requires : goal.put_point-requires
put_point-requires c =
    marked-room c.args.out.now c.args.start c.args.b
    c.args.ch c.requires

pub shape_of-out : goal.shape_of-out
shape_of-out c =
    put_length c.args.out.now
    (marked_put c.args.b c.args.ch
    c.put_point.ensures)

pub returns : goal.returns
returns c =
    marked_put c.args.b c.args.ch
    c.put_point.ensures
