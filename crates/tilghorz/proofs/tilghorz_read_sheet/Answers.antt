-- `tilghorz::tilghorz_read_sheet` meets its contract, by those of `read_sheet` and `answer_word`.
use Rattle.base.specs.Answers.{answer_row}
use Rattle.tilghorz.proofs.Outcomes.{outcome}
use Rattle.tilghorz.proofs.tilghorz_read_sheet.Goals as goal

pub returns : goal.returns
returns c = let both = outcome answer_row c.read_sheet.ensures c.answer_word.ensures in record { word = both.0; bytes = both.1 }
