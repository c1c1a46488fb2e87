-- `text_pass::base_selectors::before_modifier` meets its contract, on both sides of the test.
use mathlib.Core.Path.{sym, ◌∙◌}
use Rattle.text_pass.proofs.NumberedSelectors.{modifier_other, modifier_text}
use Rattle.text_pass.proofs.base_selectors.before_modifier.Goals as goal

pub returns-then-first-eq1 : goal.returns-then-first-eq1
returns-then-first-eq1 c f e = modifier_text f (sym e ∙ c.if-first-eq1.true)

pub returns : goal.returns
returns c f e = modifier_other f (λ q. c.if-first-eq1.false (e ∙ q))
