-- `tilghorz::tilghorz_write_sheet` meets its contract, by those of `write_sheet` and `answer_word`.
use Rattle.base.specs.Answers.{answer_row}
use Rattle.tilghorz.proofs.Outcomes.{outcome}
use Rattle.tilghorz.proofs.tilghorz_write_sheet.Goals as goal

pub returns : goal.returns
returns c = let both = outcome answer_row c.write_sheet.ensures c.answer_word.ensures in record { word = both.0; bytes = both.1 }
