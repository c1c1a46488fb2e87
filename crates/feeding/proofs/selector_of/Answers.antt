-- `feeding::selector_of` meets its contract: by the cases of the slot.
use mathlib.Core.Path.{ap, sym}
use mathlib.Core.List.{[]}
use Rattle.analysis.specs.Analysis.{chosen}
use Rattle.analysis.specs.Rules.{run_with}
use Rattle.analysis.specs.declared.singleton.Slot.{Slot}
use Rattle.feeding.proofs.selector_of.Goals as goal

pub returns-in-Bare : goal.returns-in-Bare
unfolding run_with
returns-in-Bare c = ap (λ (o : Slot). chosen o []) (sym c.in-Bare.is)

pub returns-in-Fixed : goal.returns-in-Fixed
unfolding run_with
returns-in-Fixed c = ap (λ (o : Slot). chosen o []) (sym c.in-Fixed.is)

pub returns-in-Decided : goal.returns-in-Decided
unfolding run_with
returns-in-Decided c = ap (λ (o : Slot). chosen o []) (sym c.in-Decided.is)
