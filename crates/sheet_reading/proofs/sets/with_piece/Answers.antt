-- `sheet_reading::sets::with_piece` meets its contract.
use Rattle.sheet_reading.proofs.sets.with_piece.Goals as goal

pub returns : goal.returns
returns c xs x s h =
    record {
      prefer_bare_set = c.with_piece_in.ensures xs x s h.prefer_bare_set;
      prefer_bare_keycap_set = c.with_piece_in-2.ensures xs x s h.prefer_bare_keycap_set;
      bare_as_text_set = c.with_piece_in-3.ensures xs x s h.bare_as_text_set;
      bare_as_text_keycap_set = c.with_piece_in-4.ensures xs x s h.bare_as_text_keycap_set;
    }
