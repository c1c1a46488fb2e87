-- `tilghorz::tilghorz_variation_entry` meets its contract, by those of `variation_entry` and `found_word`.
use Rattle.std.proofs.Common.{◌≡◌, rules}
use Rattle.tilghorz.proofs.tilghorz_variation_entry.Goals as goal

pub returns : goal.returns
returns c =
    let e : c.map.result ≡ c.variation_entry.result = grind rules in simp (c.found_word.ensures, e, c.variation_entry.ensures)
