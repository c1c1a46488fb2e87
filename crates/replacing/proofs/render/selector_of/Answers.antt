-- `replacing::render::selector_of` meets its contract: by the cases of the slot.
use mathlib.Core.Path.{ap, sym, ◌∙◌}
use mathlib.Core.List.{[], ◌∷◌, map}
use lib.ListN.{drop}
use Rattle.emoji.specs.declared.presentation.Presentation.{Presentation}
use Rattle.analysis.specs.Analysis.{chosen}
use Rattle.analysis.specs.Decisions.{meaning}
use Rattle.analysis.specs.Rules.{run_with}
use Rattle.analysis.specs.declared.singleton.Slot.{Slot}
use Rattle.replacing.proofs.render.selector_of.Goals as goal

pub returns-in-Bare : goal.returns-in-Bare
unfolding run_with
returns-in-Bare c =
    let x = c.args in
    ap (λ (o : Slot). chosen o (map meaning (drop x.i x.decisions.now))) (sym c.in-Bare.is)

pub returns-in-Fixed : goal.returns-in-Fixed
unfolding run_with
returns-in-Fixed c =
    let x = c.args in
    ap (λ (o : Slot). chosen o (map meaning (drop x.i x.decisions.now))) (sym c.in-Fixed.is)

pub returns-in-Decided : goal.returns-in-Decided
unfolding run_with
returns-in-Decided c =
    let x = c.args in
    ap (λ (q : Presentation). q ∷ []) c.decision_at.ensures
    ∙ ap (λ (o : Slot). chosen o (map meaning (drop x.i x.decisions.now))) (sym c.in-Decided.is)
