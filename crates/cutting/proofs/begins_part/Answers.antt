-- `cutting::begins_part` meets its contract: the class of the first character decides, if there is one.
use mathlib.Core.Path.{ap, sym, ◌∙◌}
use Rattle.scanner.proofs.Peek.{seen, unseen}
use Rattle.cutting.specs.Cut.{first_may_begin}
use Rattle.cutting.specs.Helpers.{class_may_begin}
use Rattle.cutting.proofs.Classes.{by_class}
use Rattle.cutting.proofs.begins_part.Goals as goal

pub returns-in-Some : goal.returns-in-Some
unfolding first_may_begin
returns-in-Some c =
    let x = c.args in
    let k = seen x.text.now x.at (sym c.peek.ensures ∙ c.in-Some.is) in
    c.class_may_begin.ensures ∙ ap class_may_begin k.class ∙ sym (by_class _) ∙ ap first_may_begin (sym k.chars_on)

pub returns-in-None : goal.returns-in-None
unfolding first_may_begin
returns-in-None c =
    let x = c.args in
    let k = unseen x.text.now x.at (sym c.peek.ensures ∙ c.in-None.is) in
    ap first_may_begin (sym k.chars_none)
