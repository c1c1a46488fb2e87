-- `tilghorz::tilghorz_store_release` meets its contract, by those of `release` and `store_word`.
use Rattle.tilghorz.proofs.Outcomes.{store_outcome}
use Rattle.tilghorz.proofs.tilghorz_store_release.Goals as goal

pub returns : goal.returns
returns c = let both = store_outcome c.release.ensures c.store_word.ensures in record { word = both.0; state = both.1 }
