use mathlib.Core.Path.{sym, ◌∙◌}
use native.Mathlib.Omega.{arith}
use Rattle.feeding.proofs.Tails.{backing_begin, backing_on, tail-held, tail_none}
use Rattle.feeding.proofs.tail.find_tail.Goals as goal

pub loop-at-init : goal.loop-at-init
loop-at-init c = backing_begin c.requires.0 c.requires.1

pub last_char-start-requires : goal.last_char-start-requires
last_char-start-requires c = (c.loop-at.invariant.more, c.loop-at.invariant.passed)

pub loop-at-smaller : goal.loop-at-smaller
loop-at-smaller c = c.last_char-start.ensures.before

pub loop-at-preserved : goal.loop-at-preserved
loop-at-preserved c =
    backing_on c.loop-at.invariant c.last_char-start.ensures
    c.requires.2 (sym c.selector_at.ensures ∙ c.in-Some.is)

pub held_at-requires : goal.held_at-requires
held_at-requires c = omega (arith, c.loop-at.invariant.ends)

pub returns-then-has_variation_sequence_by_block : goal.returns-then-has_variation_sequence_by_block
returns-then-has_variation_sequence_by_block c =
    tail-held c.loop-at.invariant
    c.last_char-start.ensures (sym
    c.selector_at.ensures ∙ c.in-None.is)
    c.decode-ch.ensures
    (sym c.has_variation_sequence_by_block.ensures ∙ c.if-has_variation_sequence_by_block.true) c.held_at.ensures

pub returns-in-None : goal.returns-in-None
returns-in-None c =
    tail_none c.loop-at.invariant
    c.last_char-start.ensures (sym
    c.selector_at.ensures ∙ c.in-None.is)
    c.decode-ch.ensures
    (sym c.has_variation_sequence_by_block.ensures ∙ c.if-has_variation_sequence_by_block.false) c.none_held.ensures
