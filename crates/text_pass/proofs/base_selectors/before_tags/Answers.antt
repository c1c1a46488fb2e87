-- `text_pass::base_selectors::before_tags` meets its contract, on both sides of the test.
use mathlib.Core.Path.{sym, subst}
use mathlib.Core.Bool.{Bool, cond}
use Rattle.analysis.specs.Rules.{rule4, rule5}
use Rattle.text_pass.specs.Changes.{LeavesSelector}
use Rattle.text_pass.proofs.NumberedSelectors.{tags_bare, tags_emoji}
use Rattle.text_pass.proofs.base_selectors.before_tags.Goals as goal

pub returns-then-is_emoji_default : goal.returns-then-is_emoji_default
returns-then-is_emoji_default c s = subst (λ (d : Bool). LeavesSelector (cond d (rule4 s) (rule5 s)).slot 0)
    (sym c.if-is_emoji_default.true) (tags_bare s)

pub returns : goal.returns
returns c s = subst (λ (d : Bool). LeavesSelector (cond d (rule4 s) (rule5 s)).slot 2) (sym c.if-is_emoji_default.false) (tags_emoji s)
