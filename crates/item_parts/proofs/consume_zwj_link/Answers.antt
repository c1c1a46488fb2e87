-- `item_parts::consume_zwj_link` meets its contract: a link is 200D and the selectors after it.
use mathlib.Core.Path.{refl, sym, ◌∙◌}
use mathlib.Core.Bool.{false}
use mathlib.Core.List.{[], ◌∷◌}
use Rattle.scanner.specs.RunKinds.{is_link_class}
use Rattle.item_parts.proofs.PartsAt.{link_none, link_off, link_on}
use Rattle.scanner.proofs.Peek.{seen, seen_arm, unseen}
use borrow.Enum.Refused.{opened}
use Rattle.item_parts.proofs.consume_zwj_link.Goals as goal

pub returns-in-Link : goal.returns-in-Link
returns-in-Link c =
    let x = c.args in
    let k = seen x.text.now x.at
    (sym c.peek.ensures ∙ c.in_ok-first.was) in
    link_on k c.in-Link.is c.consume_presentation_selectors-selectors.ensures

pub returns-in_default : goal.returns-in_default
returns-in_default c =
    let x = c.args in
    let k = seen x.text.now x.at (sym c.peek.ensures ∙ c.in_ok-first.was) in
    link_off k (seen_arm k is_link_class false (0 ∷ 2 ∷ 3 ∷ 4 ∷ 5 ∷ 6 ∷ 7 ∷ []) (refl, tt, refl, refl, refl, refl, refl, refl)
    (opened c.in_default.in_default-own.keys2))

pub returns-in_err-first : goal.returns-in_err-first
returns-in_err-first c =
    let x = c.args in
    c.from_residual.ensures ∙ link_none (unseen x.text.now x.at (sym c.peek.ensures ∙ c.in_err-first.was))
