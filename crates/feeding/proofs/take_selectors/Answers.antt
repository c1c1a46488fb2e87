use mathlib.Core.Path.{sym, ◌∙◌}
use native.Mathlib.Omega.{arith}
use Rattle.feeding.proofs.Fronting.{selectors_begin, selectors_few, selectors_on, selectors_room, selectors_scalar}
use Rattle.feeding.proofs.take_selectors.Goals as goal

pub loop-presentation-init : goal.loop-presentation-init
loop-presentation-init c = let x = c.args in selectors_begin x.piece.now x.from x.start c.requires.0 c.requires.3

pub take_selector-taken-requires : goal.take_selector-taken-requires
take_selector-taken-requires c =
    let g = c.loop-presentation.invariant in (
      selectors_scalar g,
      selectors_few g
          c.requires.2 c.requires.1,
    )

pub overflow_add-at : goal.overflow_add-at
overflow_add-at c =
    omega
    (arith, c.loop-presentation.invariant.inside, c.requires.2)

pub loop-presentation-smaller : goal.loop-presentation-smaller
loop-presentation-smaller c =
    omega (
      arith,
      selectors_room c.loop-presentation.invariant (sym
          c.selector_at.ensures ∙ c.in-Some.is),
    )

pub loop-presentation-preserved : goal.loop-presentation-preserved
loop-presentation-preserved c =
    selectors_on c.loop-presentation.invariant (sym
    c.selector_at.ensures ∙ c.in-Some.is) c.take_selector-taken.ensures

pub returns-in-None : goal.returns-in-None
returns-in-None c =
    record {
      so_far = c.loop-presentation.invariant;
      none_more = sym c.selector_at.ensures
          ∙ c.in-None.is;
    }
