-- `tilghorz::tilghorz_nearest` meets its contract, by those of `nearest_finding` and `optional_word`.
use Rattle.base.specs.Answers.{optional_row}
use Rattle.tilghorz.proofs.Outcomes.{outcome}
use Rattle.tilghorz.proofs.tilghorz_nearest.Goals as goal

pub returns : goal.returns
returns c = let both = outcome optional_row c.nearest_finding.ensures c.optional_word.ensures in record { word = both.0; bytes = both.1 }
