-- `tilghorz::tilghorz_feed_policy` meets its contract, by those of `change` and `answer_word`.
use Rattle.tilghorz.proofs.Outcomes.{feed_outcome}
use Rattle.tilghorz.proofs.tilghorz_feed_policy.Goals as goal

pub returns : goal.returns
returns c = let o = feed_outcome c.change.ensures c.answer_word.ensures in record { word = o.0; state = o.1.0 }
