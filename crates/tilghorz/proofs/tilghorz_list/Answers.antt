-- `tilghorz::tilghorz_list` meets its contract, by those of `list_findings` and `answer_word`.
use Rattle.base.specs.Answers.{answer_row}
use Rattle.tilghorz.proofs.Outcomes.{outcome}
use Rattle.tilghorz.proofs.tilghorz_list.Goals as goal

pub returns : goal.returns
returns c = let both = outcome answer_row c.list_findings.ensures c.answer_word.ensures in record { word = both.0; bytes = both.1 }
