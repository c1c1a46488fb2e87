-- `scanner::selectors::consume_presentation_selectors` meets its contract: each selector has three bytes, so the offsets of the
-- first two are known.
use native.Mathlib.Omega.{arith}
use Rattle.scanner.proofs.SelectorRun.{no_selectors, selector-room, selectors_are}
use Rattle.scanner.proofs.selectors.consume_presentation_selectors.Goals as goal

pub returns-then-end-at : goal.returns-then-end-at
returns-then-end-at c =
    let x = c.args in
    let r = c.selectors_end-end in
    no_selectors x.text.now x.at r.result r.ensures c.if-end-at.true

pub overflow_add-at : goal.overflow_add-at
overflow_add-at c =
    let x = c.args in
    let r = c.selectors_end-end in
    omega (arith, selector-room x.text.now x.at r.result r.ensures c.if-end-at.false)

pub returns : goal.returns
returns c =
    let x = c.args in
    let r = c.selectors_end-end in
    selectors_are x.text.now x.at r.result r.ensures c.if-end-at.false c.selector_at-first.result
    c.selector_at-second.result c.selector_at-first.ensures c.selector_at-second.ensures
