-- `tilghorz::tilghorz_feed_totals` meets its contract, by those of `totals` and `answer_word`.
use Rattle.tilghorz.proofs.tilghorz_feed_totals.Goals as goal

pub returns : goal.returns
returns c = let w = c.totals.ensures in record { word = simp (c.answer_word.ensures, w.answered.same); bytes = w.buffer }
