-- `tilghorz::tilghorz_scan` meets its contract, by those of `list_items` and `answer_word`.
use Rattle.base.specs.Answers.{answer_row}
use Rattle.tilghorz.proofs.Outcomes.{outcome}
use Rattle.tilghorz.proofs.tilghorz_scan.Goals as goal

pub returns : goal.returns
returns c = let both = outcome answer_row c.list_items.ensures c.answer_word.ensures in record { word = both.0; bytes = both.1 }
