-- `feeding::scan::scan_piece` meets its contract.
use mathlib.Core.Path.{refl}
use native.Mathlib.Omega.{arith}
use lib.ListN.{drop, length-drop}
use Rattle.utf8.proofs.Texts.{valid_up_to_le}
use Rattle.feeding.proofs.Scanning.{change_valid, first_fits, joint, scanned}
use Rattle.feeding.proofs.scan.scan_piece.Goals as goal

pub piece_from-from-requires : goal.piece_from-from-requires
piece_from-from-requires c =
    let x = c.args in first_fits x.n x.rest x.piece.now c.requires.2
    c.first_char-first.ensures

pub joined_valid-valid-requires : goal.joined_valid-valid-requires
joined_valid-valid-requires c =
    let x = c.args in
    let j = joint x.n x.rest x.piece.now c.requires.2
    c.first_char-first.ensures c.piece_from-from.ensures in
    let from = c.piece_from-from.result in (
      c.requires.0,
      omega (
        arith,
        c.requires.1,
        change_valid c.next_change-change.ensures
            c.valid_end-end.ensures,
        j.inside,
        valid_up_to_le (drop from x.piece.now),
        length-drop from x.piece.now,
      ),
    )

pub returns : goal.returns
returns c =
    let x = c.args in
    scanned (joint x.n x.rest x.piece.now c.requires.2
    c.first_char-first.ensures c.piece_from-from.ensures)
    c.next_change-change.ensures
    c.valid_end-end.ensures c.joined_valid-valid.ensures refl
