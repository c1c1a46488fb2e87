-- `sheet_reading::sets::with_closed` meets its contract.
use Rattle.sheet_reading.proofs.PieceSets.{closed_sets, kept_sets, spans-read}
use Rattle.policy_sheet.specs.Reader.{piece_read}
use Rattle.sheet_reading.proofs.sets.with_closed.Goals as goal

pub returns-then-is_closing : goal.returns-then-is_closing
returns-then-is_closing c at r t h e s =
    closed_sets c.args.c at r t h c.args.b e
    c.with_piece.result c.is_closing.ensures c.if-is_closing.true
    (c.with_piece.ensures r.pieces (piece_read r) (spans-read c.args.c r h
    (c.first_of-lo.ensures r h)) s)

pub returns : goal.returns
returns c at r t h e s =
    kept_sets c.args.c at r t h c.args.b e c.args.p
    c.is_closing.ensures c.if-is_closing.false s
