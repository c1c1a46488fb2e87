-- `item_parts::consume_emoji_modification` meets its contract: the class of the character at the offset decides which
-- modification it is.
use mathlib.Core.Path.{refl, sym, ◌∙◌}
use mathlib.Core.Bool.{false}
use mathlib.Core.List.{[], ◌∷◌}
use Rattle.scanner.specs.RunKinds.{is_modification_class, is_tag_class}
use Rattle.item_parts.proofs.PartsAt.{keycap-on, modification_none, modification_off, modifier_on, tags_on}
use Rattle.scanner.proofs.Peek.{seen, seen_arm, unseen}
use borrow.Enum.Refused.{opened}
use Rattle.item_parts.proofs.consume_emoji_modification.Goals as goal

pub returns-in-Modifier : goal.returns-in-Modifier
returns-in-Modifier c =
    let x = c.args in
    let k = seen x.text.now x.at
    (sym c.peek.ensures ∙ c.in_ok-first.was) in
    modifier_on k c.in-Modifier.is c.consume_presentation_selectors-selectors.ensures

pub returns-in-Keycap : goal.returns-in-Keycap
returns-in-Keycap c =
    let x = c.args in
    let k = seen x.text.now x.at
    (sym c.peek.ensures ∙ c.in_ok-first.was) in
    keycap-on k c.in-Keycap.is c.consume_presentation_selectors-selectors-in-Keycap.ensures

pub returns-in-Tag : goal.returns-in-Tag
returns-in-Tag c =
    let x = c.args in
    let k = seen x.text.now x.at
    (sym c.peek.ensures ∙ c.in_ok-first.was) in
    tags_on k c.in-Tag.is c.consume_emoji_tag_runs-tags.ensures.end

pub returns-in_default : goal.returns-in_default
returns-in_default c =
    let x = c.args in
    let k = seen x.text.now x.at (sym c.peek.ensures ∙ c.in_ok-first.was) in
    modification_off k (seen_arm k is_modification_class false (0 ∷ 1 ∷ 2 ∷ 4 ∷ 7 ∷ []) (refl, refl, refl, tt, refl, tt, tt, refl)
    (opened c.in_default.in_default-own.keys4))
    (seen_arm k is_tag_class false (0 ∷ 1 ∷ 2 ∷ 4 ∷ 7 ∷ []) (refl, refl, refl, tt, refl, tt, tt, refl)
    (opened c.in_default.in_default-own.keys4))

pub returns-in_err-first : goal.returns-in_err-first
returns-in_err-first c =
    let x = c.args in
    c.from_residual.ensures ∙ modification_none (unseen x.text.now x.at (sym c.peek.ensures ∙ c.in_err-first.was))
