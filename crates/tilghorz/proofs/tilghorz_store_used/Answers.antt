-- `tilghorz::tilghorz_store_used` meets its contract, by those of `used` and `store_word`.
use mathlib.Core.Path.{ap, ◌∙◌}
use Rattle.base.specs.Refusals.{RefusalRow}
use Rattle.tilghorz.specs.AnswerWord.{capped_row, word}
use Rattle.tilghorz.proofs.tilghorz_store_used.Goals as goal

pub returns : goal.returns
returns c = c.store_word.ensures ∙ ap (λ (r : RefusalRow). word (capped_row r)) c.used.ensures.same_row
