-- `sheet_writing::put_entry` meets its contract.
use Rattle.sheet_writing.proofs.EntryTexts.{entry_first, entry_inside, entry_last, entry_more, entry_out, entry_room, put_none}
use Rattle.base.proofs.Writer.{put_as}
use Rattle.sheet_writing.proofs.put_entry.Goals as goal

pub returns-then-next : goal.returns-then-next
returns-then-next c =
    put_as _ (entry_inside c.args.any c.args.ch
    c.if-here.true c.if-before.true c.if-next.true) (put_none _ _)

pub put_marked-requires : goal.put_marked-requires
put_marked-requires c =
    entry_room c.args.start
    (entry_last c.args.any c.args.ch
    c.if-here.true c.if-before.true c.if-next.false)
    c.requires

pub returns-then-before : goal.returns-then-before
returns-then-before c =
    put_as _ (entry_last c.args.any
    c.args.ch
    c.if-here.true c.if-before.true
    c.if-next.false) c.put_marked.ensures

pub put_marked-requires-then-any : goal.put_marked-requires-then-any
put_marked-requires-then-any c =
    entry_room c.args.start
    (entry_more c.args.next c.args.ch
    c.if-here.true c.if-before.false c.if-any.true)
    c.requires

pub returns-then-any : goal.returns-then-any
returns-then-any c =
    put_as _ (entry_more c.args.next
    c.args.ch
    c.if-here.true c.if-before.false
    c.if-any.true) c.put_marked-then-any.ensures

pub put_point-requires : goal.put_point-requires
put_point-requires c =
    entry_room c.args.start
    (entry_first c.args.next c.args.ch
    c.if-here.true c.if-before.false c.if-any.false)
    c.requires

pub returns-then-here : goal.returns-then-here
returns-then-here c =
    put_as _ (entry_first c.args.next
    c.args.ch
    c.if-here.true c.if-before.false
    c.if-any.false) c.put_point.ensures

pub returns : goal.returns
returns c =
    put_as _ (entry_out c.args.before c.args.any c.args.next
    c.args.ch c.if-here.false) (put_none _ _)
