-- `tilghorz::tilghorz_cut` meets its contract, by those of `cut_before` and `found_word`.
use Rattle.tilghorz.proofs.tilghorz_cut.Goals as goal

pub returns : goal.returns
returns c = simp (c.found_word.ensures, c.cut_before.ensures)
