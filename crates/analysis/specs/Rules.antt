-- The six rules for a single base, in document 01's order ("Counts and finding"): `outcome` is the result of the first rule that
-- fits.
use Rattle.std.specs.Prelude.{Bool, true, false, cond, not, ◌&&◌, List, [], ◌∷◌, ℕ, ◌-◌, length, replicate, Some, None, Option}
use Rattle.emoji.specs.Unicode.{has_variation_sequence, is_emoji_default, is_emoji_modifier_base}
use Rattle.emoji.specs.declared.presentation.Presentation.{Presentation}
use Rattle.emoji.specs.declared.presentation.Presentation.TheVariants.{Emoji, Text}
use Rattle.policy.specs.Policy.{singleton_rule}
use Rattle.policy.specs.declared.Policy.{Policy}
use Rattle.policy.specs.declared.SingletonRule.{SingletonRule}
use Rattle.policy.specs.declared.SingletonRule.TheVariants.{BareToEmoji, BareToText, EmojiToBare, TextToBare}
use Rattle.scanner.specs.Classes.{is_class}
use Rattle.scanner.specs.declared.char_class.Class.{Class}
use Rattle.scanner.specs.declared.char_class.Class.TheVariants.{Modifier as modifier, Keycap as keycap, Tag as tag}
use Rattle.analysis.specs.Counts.{
  ◌⊕◌,
  additional_defective,
  decision,
  empty,
  modifier_defective,
  policy_redundant,
  tag_conflicting,
  tag_forced,
  tag_redundant,
  unsanctioned,
}
-- The result of a rule for a base: its counts, and its slot. The slot says what follows the base in the replacement: no selector
-- (`bare`), this selector (`fixed`), or the selector that a decision names, with this default (`decided`).
pub use Rattle.analysis.specs.declared.singleton.Outcome.{Outcome}
pub use Rattle.analysis.specs.declared.singleton.Slot.{Slot}
pub use Rattle.analysis.specs.declared.singleton.Slot.TheVariants.{Bare as bare, Fixed as fixed, Decided as decided}
use Rattle.analysis.specs.declared.types.NonCanonicality.{NonCanonicality}

-- The result with these counts and this slot.
abbrev pub gives : NonCanonicality → Slot → Outcome
gives n s = record { counts = n; slot = s }

-- The counts m if FE0E is first, n if FE0F is first; the other selectors are unsanctioned.
unfoldable pub by_first : NonCanonicality → NonCanonicality → List Presentation → NonCanonicality
by_first m n [] = empty
by_first m n (Text ∷ s) = m ⊕ unsanctioned (length s)
by_first m n (Emoji ∷ s) = n ⊕ unsanctioned (length s)

-- "No variation entry: all its selectors unsanctioned."
unfoldable pub rule1 : List Presentation → Outcome
rule1 s = gives (unsanctioned (length s)) bare

-- "First modification a modifier, FE0E first: keep FE0E, the rest unsanctioned."
unfoldable pub rule2 : List Presentation → Outcome
rule2 s = gives (by_first empty empty s) (fixed Text)

-- "First modification a modifier: bare. A first FE0F is modifier-defective if the base is in EMOJI_MODIFIER_BASES, else
-- additional-defective; the rest unsanctioned."
unfoldable pub rule3 : Bool → List Presentation → Outcome
rule3 is_modifier_base s = gives (by_first empty (cond is_modifier_base modifier_defective additional_defective) s) bare

-- "First modification tags, base emoji-default: bare. A first FE0F is tag-redundant, a first FE0E tag-conflicting; the rest
-- unsanctioned."
unfoldable pub rule4 : List Presentation → Outcome
rule4 s = gives (by_first tag_conflicting tag_redundant s) bare

-- "First modification tags, other base: exactly FE0F. Empty: tag-forced. FE0E first: tag-conflicting and tag-forced. The rest
-- unsanctioned."
unfoldable pub rule5 : List Presentation → Outcome
rule5 [] = gives tag_forced (fixed Emoji)
rule5 (q ∷ s) = gives (by_first (tag_conflicting ⊕ tag_forced) empty (q ∷ s)) (fixed Emoji)

-- Whether the presentation is the bare side of `TextToBare` or `EmojiToBare`.
unfoldable pub is_bare_side : SingletonRule → Presentation → Bool
is_bare_side TextToBare Text = true
is_bare_side TextToBare Emoji = false
is_bare_side EmojiToBare Text = false
is_bare_side EmojiToBare Emoji = true
is_bare_side BareToText q = false
is_bare_side BareToEmoji q = false

-- "No selector under BareToText or BareToEmoji: one decision, with that default."
unfoldable pub without_selector : SingletonRule → Outcome
without_selector TextToBare = gives empty bare
without_selector EmojiToBare = gives empty bare
without_selector BareToText = gives decision (decided Text)
without_selector BareToEmoji = gives decision (decided Emoji)

-- "A first selector equal to the bare side of TextToBare or EmojiToBare is policy-redundant, and the result is bare even where
-- others follow. Any other first selector stays. The rest are unsanctioned."
unfoldable pub rule6 : SingletonRule → List Presentation → Outcome
rule6 r [] = without_selector r
rule6 r (q ∷ s) =
    cond (is_bare_side r q)
    (gives (policy_redundant ⊕ unsanctioned (length s)) bare)
    (gives (unsanctioned (length s)) (fixed q))

-- The first modification is a modifier.
unfoldable pub by_modifier : Class → Bool
by_modifier = is_class modifier

-- The first modification is tags.
unfoldable pub by_tags : Class → Bool
by_tags = is_class tag

-- The first modification is 20E3.
unfoldable pub by_keycap : Class → Bool
by_keycap = is_class keycap

-- "FE0E first"
unfoldable pub text_first : List Presentation → Bool
text_first [] = false
text_first (Text ∷ s) = true
text_first (Emoji ∷ s) = false

-- "For a single base the first rule that fits holds": by the policy, the base, the class of the character after the base and its
-- selectors, and the selectors. Rule 6: "Policy, keycap sets if the first modification is 20E3."
unfoldable pub outcome : Policy → ℕ → Class → List Presentation → Outcome
outcome p c k s =
    cond (not (has_variation_sequence c)) (rule1 s)
    (cond (by_modifier k && text_first s) (rule2 s)
    (cond (by_modifier k) (rule3 (is_emoji_modifier_base c) s)
    (cond (by_tags k && is_emoji_default c) (rule4 s)
    (cond (by_tags k) (rule5 s)
    (rule6 (singleton_rule p c (by_keycap k)) s)))))

-- ---- the selectors by numbers

-- The first selector, if there is one.
unfoldable pub first_asked : List Presentation → Option Presentation
first_asked [] = None
first_asked (q ∷ s) = Some q

-- Selectors with this first one and this number; a number of 0 with a first selector counts as 1. The rules depend on nothing more:
-- specs/Theorems.antt, RulesByNumbers.
unfoldable pub run_with : Option Presentation → ℕ → List Presentation
run_with None n = []
run_with (Some q) n = q ∷ replicate (n - 1) q

-- The number of a selector: 0 for none, 1 for Text, 2 for Emoji.
abbrev pub selector_number : Option Presentation → ℕ
selector_number None = 0
selector_number (Some Text) = 1
selector_number (Some Emoji) = 2
