-- The outcome of `repair`, and the word of its answer.
use Rattle.repair.specs.Repair.{repair_row}
use Rattle.tilghorz.proofs.Outcomes.{outcome}
use Rattle.tilghorz.proofs.tilghorz_repair.Goals as goal

pub returns : goal.returns
returns c = let both = outcome repair_row c.repair.ensures c.repair_word.ensures in record { word = both.0; bytes = both.1 }
