-- `tilghorz::tilghorz_store_file` meets its contract, by those of `file` and `optional_word`.
use Rattle.tilghorz.proofs.Outcomes.{file_outcome}
use Rattle.tilghorz.proofs.tilghorz_store_file.Goals as goal

pub returns : goal.returns
returns c = let both = file_outcome c.file.ensures c.optional_word.ensures in record { word = both.0; state = both.1.0; bytes = both.1.1 }
