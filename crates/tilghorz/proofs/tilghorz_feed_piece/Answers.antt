-- `tilghorz::tilghorz_feed_piece` meets its contract, by those of `piece` and `answer_word`.
use Rattle.tilghorz.proofs.Outcomes.{feed_outcome}
use Rattle.tilghorz.proofs.tilghorz_feed_piece.Goals as goal

pub returns : goal.returns
returns c = let both = feed_outcome c.piece.ensures c.answer_word.ensures in record { word = both.0; state = both.1.0; bytes = both.1.1 }
