use Rattle.std.proofs.Common.{ap, sym, ◌∙◌}
use Rattle.base.specs.Answers.{optional_row}
use Rattle.tilghorz.specs.AnswerWord.{word}
use Rattle.tilghorz.proofs.AnswerWords.{found-optional}
use Rattle.tilghorz.proofs.answer_word.optional_word.Goals as goal

pub returns-in-Ok : goal.returns-in-Ok
returns-in-Ok c = c.found_word.ensures ∙ ap word (found-optional c.in-Ok.found ∙ ap optional_row (sym c.in-Ok.is))
