-- `text_pass::base_selectors::selectors_after` meets its contract: the other selectors follow the first.
use mathlib.Core.Path.{sym, ◌∙◌}
use native.Mathlib.Omega.{arith}
use Rattle.scanner.proofs.SelectorBytes.{no_more, selector_here}
use Rattle.text_pass.proofs.base_selectors.selectors_after.Goals as goal

pub overflow_add-at : goal.overflow_add-at
overflow_add-at c =
    let h = selector_here c.args.text.now c.args.at c.in-Some.field-0 (sym c.requires ∙ c.in-Some.is) in
    omega (arith, h.read.room, c.well_formed.0.0)

pub returns-in-None : goal.returns-in-None
returns-in-None c = omega (arith, no_more c.args.text.now c.args.at (sym c.requires ∙ c.in-None.is))

pub returns-in-Some : goal.returns-in-Some
returns-in-Some c =
    let h = selector_here c.args.text.now c.args.at c.in-Some.field-0
    (sym c.requires ∙ c.in-Some.is) in
    omega (arith, h.runs_on, c.selectors_end.ensures)
