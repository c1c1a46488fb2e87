-- `item_parts::consume_sequence_part` meets its contract: by the link, and the character after its selectors.
use mathlib.Core.Path.{refl, sym, ◌∙◌}
use mathlib.Core.Bool.{true, false}
use mathlib.Core.List.{[], ◌∷◌}
use Rattle.scanner.specs.RunKinds.{is_emoji_class}
use Rattle.scanner.proofs.Peek.{seen, seen_arm, unseen}
use Rattle.item_parts.proofs.UnitsAt.{part-before-none, part-joins, part-last, part-left-over, part_none, part-past}
use borrow.Enum.Refused.{opened}
use Rattle.item_parts.proofs.consume_sequence_part.Goals as goal

pub returns-then-item_end-at : goal.returns-then-item_end-at
returns-then-item_end-at c =
    let x = c.args in
    part-past x.text.now x.item_end x.at c.if-item_end-at.true

pub returns-in_err-selectors : goal.returns-in_err-selectors
returns-in_err-selectors c =
    let x = c.args in
    c.from_residual.ensures ∙ part_none x.text.now x.item_end x.at c.if-item_end-at.false
    (sym c.in_err-selectors.was ∙ c.consume_zwj_link.ensures)

pub returns-then-item_end-selectors : goal.returns-then-item_end-selectors
returns-then-item_end-selectors c =
    let x = c.args in
    part-last x.text.now x.item_end x.at c.if-item_end-at.false
    (sym c.in_ok-selectors.was ∙ c.consume_zwj_link.ensures)
    c.if-item_end-selectors.true

pub returns-in-Ri : goal.returns-in-Ri
returns-in-Ri c =
    let x = c.args in
    let k = seen x.text.now c.in_ok-selectors.field-0.selectors.end (sym c.peek.ensures ∙ c.in-Some.is) in
    part-joins x.text.now x.item_end x.at c.if-item_end-at.false
    (sym c.in_ok-selectors.was ∙ c.consume_zwj_link.ensures)
    c.if-item_end-selectors.false k
    (seen_arm k is_emoji_class true (2 ∷ 3 ∷ 4 ∷ []) (tt, tt, refl, refl, refl, tt, tt, tt) c.in-Ri.in-Ri-own.keys1)

pub returns-in_default-class : goal.returns-in_default-class
returns-in_default-class c =
    let x = c.args in
    let k = seen x.text.now c.in_ok-selectors.field-0.selectors.end (sym c.peek.ensures ∙ c.in-Some.is) in
    part-left-over x.text.now x.item_end x.at c.if-item_end-at.false
    (sym c.in_ok-selectors.was ∙ c.consume_zwj_link.ensures)
    c.if-item_end-selectors.false k
    (seen_arm k is_emoji_class false (0 ∷ 1 ∷ 5 ∷ 6 ∷ 7 ∷ []) (refl, refl, tt, tt, tt, refl, refl, refl)
    (opened c.in_default-class.in_default-class-own.keys2))

pub returns-in_default : goal.returns-in_default
returns-in_default c =
    let x = c.args in
    part-before-none x.text.now x.item_end x.at c.if-item_end-at.false
    (sym c.in_ok-selectors.was ∙ c.consume_zwj_link.ensures)
    c.if-item_end-selectors.false
    (unseen x.text.now c.in_ok-selectors.field-0.selectors.end (sym c.peek.ensures ∙ c.in_default.is))
