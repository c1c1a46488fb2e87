-- `text_pass::base_selectors::rule_class` meets its contract: at each of the characters that the rules distinguish, and elsewhere.
use mathlib.Core.Path.{sym, ◌∙◌}
use native.Mathlib.Omega.{arith}
use borrow.Author.Tests.{ne_eqb}
use Rattle.scanner.proofs.Classes.{is_keycap, is_modifier, is_tag_lem}
use Rattle.text_pass.proofs.RuleClasses.{rules_as, rules_before, rules_other}
use Rattle.text_pass.proofs.base_selectors.rule_class.Goals as goal

pub returns-in-0-to-8418 : goal.returns-in-0-to-8418
returns-in-0-to-8418 c = rules_before _ (omega arith)

pub returns-in-8419 : goal.returns-in-8419
returns-in-8419 c = rules_as (is_keycap c.in-8419.is)

pub returns-in_default : goal.returns-in_default
returns-in_default c = rules_as
    (is_modifier (sym c.is_emoji_modifier_by_ends.ensures ∙ c.if-is_emoji_modifier_by_ends.true))

pub returns-in_default-2 : goal.returns-in_default-2
returns-in_default-2 c = rules_as (is_tag_lem (sym c.is_tag.ensures ∙ c.if-is_tag.true))

pub returns-in_default-3 : goal.returns-in_default-3
returns-in_default-3 c = rules_other _ (ne_eqb _ _ (λ e. omega (arith, e)))
    (sym c.is_emoji_modifier_by_ends.ensures ∙ c.if-is_emoji_modifier_by_ends.false)
    (sym c.is_tag.ensures ∙ c.if-is_tag.false)
