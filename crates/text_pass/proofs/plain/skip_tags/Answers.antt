use mathlib.Core.Path.{sym, ◌∙◌}
use native.Mathlib.Omega.{arith}
use Rattle.text_pass.proofs.PlainText.{stays_at, tag_at}
use Rattle.text_pass.proofs.Staying.{stays_here, stays_on}
use Rattle.text_pass.proofs.plain.skip_tags.Goals as goal

pub loop-at-init : goal.loop-at-init
loop-at-init c p = stays_here _

pub returns : goal.returns
returns c = c.loop-at.invariant

pub overflow_add-at : goal.overflow_add-at
overflow_add-at c =
    let h = tag_at c.args.text.now c.loop-at.at c.decode.result c.decode.ensures (sym c.is_tag.ensures ∙ c.loop-at-test.true) in
    omega (arith, h.read.room, c.well_formed.0.0)

pub loop-at-smaller : goal.loop-at-smaller
loop-at-smaller c =
    let h = tag_at c.args.text.now c.loop-at.at c.decode.result c.decode.ensures (sym c.is_tag.ensures ∙ c.loop-at-test.true) in
    omega (arith, h.read.room)

pub loop-at-preserved : goal.loop-at-preserved
loop-at-preserved c =
    let h = tag_at c.args.text.now c.loop-at.at c.decode.result c.decode.ensures (sym c.is_tag.ensures ∙ c.loop-at-test.true) in
    λ p. stays_on (c.loop-at.invariant p) (stays_at p h)
