-- `tilghorz::tilghorz_around` meets its contract, by those of `findings_around` and `around_word`.
use Rattle.tilghorz.proofs.Outcomes.{around_outcome}
use Rattle.tilghorz.proofs.tilghorz_around.Goals as goal

pub returns : goal.returns
returns c = let both = around_outcome c.findings_around.ensures c.around_word.ensures in
    record { word = both.0; first = both.1.0; second = both.1.1 }
