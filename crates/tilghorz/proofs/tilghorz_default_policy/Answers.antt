-- `tilghorz::tilghorz_default_policy` meets its contract, by those of `write_policy` and `answer_word`.
use Rattle.tilghorz.proofs.tilghorz_default_policy.Goals as goal

pub returns : goal.returns
returns c =
    let w = c.write_policy.ensures in
    let d = c.default.ensures in record { word = simp (c.answer_word.ensures, w.answered.same, d); bytes = simp (w.buffer, d) }
