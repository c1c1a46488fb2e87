-- `feeding::take_selector` meets its contract: nothing is held, or the base has one more selector.
use native.Mathlib.Omega.{arith}
use Rattle.feeding.proofs.Taking.{selector_alone, selector_after}
use Rattle.feeding.proofs.take_selector.Goals as goal

pub returns-then-base-eq0 : goal.returns-then-base-eq0
returns-then-base-eq0 c =
    let x = c.args in
    λ p o. selector_alone x.taken x.presentation c.requires.0 c.requires.1 c.if-base-eq0.true
    c.unsanctioned.ensures c.add-more.ensures p o

pub overflow_add-count : goal.overflow_add-count
overflow_add-count c = omega (arith, c.requires.1)

pub returns : goal.returns
returns c =
    let x = c.args in
    λ p o. selector_after x.taken x.presentation c.requires.0 c.requires.1 c.if-base-eq0.false
    c.first_after-next.ensures p o
