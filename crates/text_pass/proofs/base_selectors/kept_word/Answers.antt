-- `text_pass::base_selectors::kept_word` meets its contract: one arm for each rule of the policy.
use mathlib.Core.Path.{sym, subst}
use Prim.Native.Nat.{◌*◌, ◌/◌, ◌%◌, ◌^◌}
use Rattle.policy.specs.declared.SingletonRule.{SingletonRule}
use Rattle.analysis.specs.Rules.{rule6, run_with, selector_number}
use Rattle.text_pass.specs.Changes.{LeavesSelector}
use Rattle.text_pass.proofs.NumberedSelectors.{bare_to_emoji, bare_to_text, emoji_to_bare, text_to_bare}
use Rattle.text_pass.proofs.base_selectors.kept_word.Goals as goal

pub returns-in-TextToBare : goal.returns-in-TextToBare
returns-in-TextToBare c f n = subst (λ (s : SingletonRule). LeavesSelector (rule6 s (run_with f n)).slot
    (0x20 / 2 ^ (2 * selector_number f) % 4)) (sym c.in-TextToBare.is) (text_to_bare f n)

pub returns-in-EmojiToBare : goal.returns-in-EmojiToBare
returns-in-EmojiToBare c f n = subst (λ (s : SingletonRule). LeavesSelector (rule6 s (run_with f n)).slot
    (0x04 / 2 ^ (2 * selector_number f) % 4)) (sym c.in-EmojiToBare.is) (emoji_to_bare f n)

pub returns-in-BareToText : goal.returns-in-BareToText
returns-in-BareToText c f n = subst (λ (s : SingletonRule). LeavesSelector (rule6 s (run_with f n)).slot
    (0x25 / 2 ^ (2 * selector_number f) % 4)) (sym c.in-BareToText.is) (bare_to_text f n)

pub returns-in-BareToEmoji : goal.returns-in-BareToEmoji
returns-in-BareToEmoji c f n = subst (λ (s : SingletonRule). LeavesSelector (rule6 s (run_with f n)).slot
    (0x26 / 2 ^ (2 * selector_number f) % 4)) (sym c.in-BareToEmoji.is) (bare_to_emoji f n)
