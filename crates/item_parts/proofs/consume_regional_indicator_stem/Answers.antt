-- `item_parts::consume_regional_indicator_stem` meets its contract: by the selectors, and the character after them.
use mathlib.Core.Path.{refl, sym, ◌∙◌}
use mathlib.Core.Bool.{false}
use mathlib.Core.List.{[], ◌∷◌}
use Rattle.scanner.proofs.ClassTests.{is_ri_class}
use Rattle.item_parts.proofs.PartsAt.{ri_alone, ri-flag, ri-single}
use Rattle.scanner.proofs.Peek.{seen, seen_arm, unseen}
use borrow.Enum.Refused.{opened}
use Rattle.item_parts.proofs.consume_regional_indicator_stem.Goals as goal

pub returns-in-Ri : goal.returns-in-Ri
returns-in-Ri c =
    let x = c.args in
    let r = c.consume_presentation_selectors-after_first_ri in
    let k = seen x.text.now r.result.end (sym c.peek.ensures ∙ c.in-Some.is) in
    ri-flag x.text.now x.at r.ensures k x.first_ri c.in-Ri.is
    c.consume_presentation_selectors-after_second_ri.ensures

pub returns-in_default-class : goal.returns-in_default-class
returns-in_default-class c =
    let x = c.args in
    let r = c.consume_presentation_selectors-after_first_ri in
    let k = seen x.text.now r.result.end (sym c.peek.ensures ∙ c.in-Some.is) in
    ri-single x.text.now x.at r.ensures k x.first_ri
    (seen_arm k is_ri_class false (0 ∷ 1 ∷ 3 ∷ 4 ∷ 5 ∷ 6 ∷ 7 ∷ []) (refl, refl, tt, refl, refl, refl, refl, refl)
    (opened c.in_default-class.in_default-class-own.keys2))

pub returns-in_default : goal.returns-in_default
returns-in_default c =
    let x = c.args in
    let r = c.consume_presentation_selectors-after_first_ri in
    ri_alone x.text.now x.at r.ensures
    (unseen x.text.now r.result.end (sym c.peek.ensures ∙ c.in_default.is)) x.first_ri
