-- `formatting::valid_after` meets its contract.
use mathlib.Core.Path.{refl, sym, ◌∙◌}
use mathlib.Core.Bool.{true≢false}
use borrow.Author.Tests.{not-false, not-true}
use Rattle.formatting.proofs.valid_after.Goals as goal

pub returns-then-not-change : goal.returns-then-not-change
returns-then-not-change c = (λ m. absurd (true≢false (sym m ∙ not-true _ c.if-not-change.true)), λ _. refl)

pub returns : goal.returns
returns c = (λ _. c.valid_end.ensures, λ m. absurd (true≢false (sym (not-false _ c.if-not-change.false) ∙ m)))
