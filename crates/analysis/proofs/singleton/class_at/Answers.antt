-- `analysis::singleton::class_at` meets its contract: the class of the first character, if there is one.
use mathlib.Core.Path.{ap, sym, ◌∙◌}
use Rattle.scanner.proofs.Peek.{seen, unseen}
use Rattle.analysis.specs.CellView.{class_in_front}
use Rattle.analysis.proofs.singleton.class_at.Goals as goal

pub returns-in-Some : goal.returns-in-Some
unfolding class_in_front
returns-in-Some c =
    let x = c.args in
    let k = seen x.text.now x.at (sym c.peek.ensures ∙ c.in-Some.is) in
    k.class ∙ ap class_in_front (sym k.chars_on)

pub returns-in-None : goal.returns-in-None
unfolding class_in_front
returns-in-None c =
    let x = c.args in
    let k = unseen x.text.now x.at (sym c.peek.ensures ∙ c.in-None.is) in
    ap class_in_front (sym k.chars_none)
