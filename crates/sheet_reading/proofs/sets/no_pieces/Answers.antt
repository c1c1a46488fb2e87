-- `sheet_reading::sets::no_pieces` meets its contract.
use Rattle.sheet_reading.proofs.PieceSets.{no_sets}
use Rattle.sheet_reading.proofs.sets.no_pieces.Goals as goal

pub returns : goal.returns
returns c =
    let a = c.none.ensures in
    let b = c.none-2.ensures in
    no_sets _ a.ordinary_keys a.keycap_keys b.ordinary_keys b.keycap_keys
