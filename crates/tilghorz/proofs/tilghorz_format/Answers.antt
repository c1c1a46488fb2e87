-- `tilghorz::tilghorz_format` meets its contract, by those of `format_text` and `optional_word`.
use Rattle.base.specs.Answers.{optional_row}
use Rattle.tilghorz.proofs.Outcomes.{outcome}
use Rattle.tilghorz.proofs.tilghorz_format.Goals as goal

pub returns : goal.returns
returns c = let both = outcome optional_row c.format_text.ensures c.optional_word.ensures in record { word = both.0; bytes = both.1 }
