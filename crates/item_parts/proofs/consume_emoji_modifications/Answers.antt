-- `item_parts::consume_emoji_modifications` meets its contract: where a modification begins, all modifications are one run.
use mathlib.Core.Path.{refl, sym, ◌∙◌}
use mathlib.Core.Bool.{true, false}
use mathlib.Core.List.{[], ◌∷◌}
use Rattle.scanner.specs.RunKinds.{is_modification_class}
use Rattle.item_parts.proofs.PartsAt.{modifications_none, modifications_off, modifications_on}
use Rattle.scanner.proofs.Peek.{seen, seen_arm, unseen}
use borrow.Enum.Refused.{opened}
use Rattle.item_parts.proofs.consume_emoji_modifications.Goals as goal

pub returns-in-Modifier : goal.returns-in-Modifier
returns-in-Modifier c =
    let x = c.args in
    let k = seen x.text.now x.at (sym c.peek.ensures ∙ c.in-Some.is) in
    modifications_on k (seen_arm k is_modification_class true (3 ∷ 5 ∷ 6 ∷ []) (tt, tt, tt, refl, tt, refl, refl, tt)
    c.in-Modifier.in-Modifier-own.keys1)
    c.run_end.ensures

pub returns-in_default-class : goal.returns-in_default-class
returns-in_default-class c =
    let x = c.args in
    let k = seen x.text.now x.at (sym c.peek.ensures ∙ c.in-Some.is) in
    modifications_off k (seen_arm k is_modification_class false (0 ∷ 1 ∷ 2 ∷ 4 ∷ 7 ∷ []) (refl, refl, refl, tt, refl, tt, tt, refl)
    (opened c.in_default-class.in_default-class-own.keys2))

pub returns-in_default : goal.returns-in_default
returns-in_default c =
    let x = c.args in
    modifications_none (unseen x.text.now x.at (sym c.peek.ensures ∙ c.in_default.is))
