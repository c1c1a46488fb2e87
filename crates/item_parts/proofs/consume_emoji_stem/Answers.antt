-- `item_parts::consume_emoji_stem` meets its contract: the class of the character at the offset decides which stem it is.
use mathlib.Core.Path.{refl, sym, ◌∙◌}
use mathlib.Core.Bool.{true, false}
use mathlib.Core.List.{[], ◌∷◌}
use Rattle.scanner.specs.RunKinds.{is_emoji_class}
use Rattle.scanner.proofs.ClassTests.{is_ri_class}
use Rattle.item_parts.proofs.PartsAt.{stem_none, stem_off, stem_on, stem_ri}
use Rattle.scanner.proofs.Peek.{seen, seen_arm, unseen}
use borrow.Enum.Refused.{opened}
use Rattle.item_parts.proofs.consume_emoji_stem.Goals as goal

pub returns-in-Ri : goal.returns-in-Ri
returns-in-Ri c =
    let x = c.args in
    let k = seen x.text.now x.at
    (sym c.peek.ensures ∙ c.in_ok-first.was) in
    stem_ri k c.in-Ri.is c.consume_regional_indicator_stem.ensures

pub returns-in-Modifier : goal.returns-in-Modifier
returns-in-Modifier c =
    let x = c.args in
    let k = seen x.text.now x.at
    (sym c.peek.ensures ∙ c.in_ok-first.was) in
    stem_on k (seen_arm k is_emoji_class true (3 ∷ 4 ∷ []) (tt, tt, tt, refl, refl, tt, tt, tt) c.in-Modifier.in-Modifier-own.keys2)
    (seen_arm k is_ri_class false (3 ∷ 4 ∷ []) (tt, tt, tt, refl, refl, tt, tt, tt) c.in-Modifier.in-Modifier-own.keys2)
    c.consume_presentation_selectors-selectors.ensures

pub returns-in_default : goal.returns-in_default
returns-in_default c =
    let x = c.args in
    let k = seen x.text.now x.at (sym c.peek.ensures ∙ c.in_ok-first.was) in
    stem_off k (seen_arm k is_emoji_class false (0 ∷ 1 ∷ 5 ∷ 6 ∷ 7 ∷ []) (refl, refl, tt, tt, tt, refl, refl, refl)
    (opened c.in_default.in_default-own.keys3))

pub returns-in_err-first : goal.returns-in_err-first
returns-in_err-first c =
    let x = c.args in
    c.from_residual.ensures ∙ stem_none (unseen x.text.now x.at (sym c.peek.ensures ∙ c.in_err-first.was))
