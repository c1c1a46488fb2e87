-- `tilghorz::answer_word::capped_word` meets its contract, by the test of the value.
use mathlib.Core.Path.{◌∙◌}
use Rattle.tilghorz.proofs.AnswerWords.{above_most, within-most}
use Rattle.tilghorz.proofs.answer_word.capped_word.Goals as goal

pub returns-then-value-gt-MOST_VALUE : goal.returns-then-value-gt-MOST_VALUE
returns-then-value-gt-MOST_VALUE c = let x = c.args in c.word_of.ensures ∙ above_most x.number x.value c.if-value-gt-MOST_VALUE.true

pub returns : goal.returns
returns c = let x = c.args in c.word_of-2.ensures ∙ within-most x.number x.value c.if-value-gt-MOST_VALUE.false
