-- `display::show_word` meets its contract: the word fits or does not fit.
use mathlib.Core.Path.{refl}
use Rattle.base.proofs.Output.{too_short, wrote}
use Rattle.policy_key_set.proofs.display.show_word.Goals as goal

pub returns-then-word-out : goal.returns-then-word-out
returns-then-word-out c = wrote refl c.if-word-out.true c.put_bytes.ensures

pub returns : goal.returns
returns c = too_short c.args.word.now refl c.if-word-out.false
