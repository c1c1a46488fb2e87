use native.Mathlib.Omega.{arith}
use Rattle.text_pass.proofs.PlainText.{link_at, stays_at}
use Rattle.text_pass.proofs.Staying.{stays_here, stays_on}
use Rattle.text_pass.proofs.plain.skip_links.Goals as goal

pub loop-at-init : goal.loop-at-init
loop-at-init c p = stays_here _

pub overflow_add-at : goal.overflow_add-at
overflow_add-at c =
    let x = c.args in
    let l = c.loop-at in
    let h = link_at x.text.now l.at c.decode.result c.decode.ensures c.loop-at-test.true in
    omega (arith, h.read.room, c.well_formed.0.0)

pub loop-at-smaller : goal.loop-at-smaller
loop-at-smaller c =
    let x = c.args in
    let l = c.loop-at in
    let h = link_at x.text.now l.at c.decode.result c.decode.ensures c.loop-at-test.true in
    omega (arith, h.read.room)

pub loop-at-preserved : goal.loop-at-preserved
loop-at-preserved c =
    let x = c.args in
    let l = c.loop-at in
    let h = link_at x.text.now l.at c.decode.result c.decode.ensures c.loop-at-test.true in
    λ p. stays_on (l.invariant p) (stays_at p h)

pub returns : goal.returns
returns c = c.loop-at.invariant
