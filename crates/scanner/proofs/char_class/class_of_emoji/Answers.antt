-- `scanner::char_class::class_of_emoji` meets its contract: an emoji has the class ri, modifier or emoji.
use mathlib.Core.Path.{sym, ◌∙◌}
use Rattle.scanner.proofs.Classes.{class_is, is_emoji_lem, is_modifier, is_ri_lem}
use Rattle.scanner.proofs.char_class.class_of_emoji.Goals as goal

pub returns-then-is_ri_by_ends : goal.returns-then-is_ri_by_ends
returns-then-is_ri_by_ends c e = sym (class_is (is_ri_lem (sym c.is_ri_by_ends.ensures ∙ c.if-is_ri_by_ends.true)))

pub returns-then-is_emoji_modifier_by_ends : goal.returns-then-is_emoji_modifier_by_ends
returns-then-is_emoji_modifier_by_ends c e = sym (class_is
    (is_modifier (sym c.is_emoji_modifier_by_ends.ensures ∙ c.if-is_emoji_modifier_by_ends.true)))

pub returns-else-is_emoji_modifier_by_ends : goal.returns-else-is_emoji_modifier_by_ends
returns-else-is_emoji_modifier_by_ends c e =
    sym (class_is (is_emoji_lem e (sym c.is_ri_by_ends.ensures ∙ c.if-is_ri_by_ends.false)
    (sym c.is_emoji_modifier_by_ends.ensures ∙ c.if-is_emoji_modifier_by_ends.false)))
