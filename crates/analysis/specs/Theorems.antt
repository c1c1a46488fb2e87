-- Statements about rules, counts, replacements and choices. Each statement is proved in proofs/Claims.antt.
use Rattle.std.specs.Prelude.{◌≡◌, ◌↔◌, ◌≢◌, true, false, ℕ, ◌+◌, ◌*◌, ◌≤◌, length}
use mathlib.Core.List.{List, [], ◌∷◌, map, Memᴰ}
use Rattle.base.specs.Sums.{most}
use Rattle.utf8.specs.Rfc3629.{chars}
use Rattle.emoji.specs.Unicode.{has_variation_sequence, is_emoji_default, is_emoji_modifier_base}
use Rattle.emoji.specs.declared.presentation.Presentation.{Presentation}
use Rattle.emoji.specs.declared.presentation.Presentation.TheVariants.{Emoji, Text}
use Rattle.policy.specs.DefaultPolicy.{default_policy}
use Rattle.policy.specs.Policy.{singleton_rule}
use Rattle.policy.specs.declared.Policy.{Policy}
use Rattle.policy.specs.declared.SingletonRule.TheVariants.{BareToEmoji, BareToText, EmojiToBare, TextToBare}
use Rattle.scanner.specs.Classes.{strip}
use Rattle.scanner.specs.declared.char_class.Class.{Class}
use Rattle.scanner.specs.declared.char_class.Class.TheVariants.{Modifier as modifier, Tag as tag}
use Rattle.scanner.specs.Items.{Item, items}
use Rattle.scanner.specs.Spans.{size, width}
use Rattle.scanner.specs.Structure.{structure}
use Rattle.scanner.specs.Theorems.{Structured, item}
use Rattle.scanner.specs.declared.ScanKind.TheVariants.{EmojiHeaded}
use Rattle.analysis.specs.Analysis.{
  Choice,
  choices,
  chosen,
  default_decisions,
  default_replacement,
  is_finding,
  non_canonicality,
  replacement,
}
use Rattle.analysis.specs.Cells.{selector_count}
use Rattle.analysis.specs.ChoicesAt.{Meets}
use Rattle.analysis.specs.Components.{assemble, choices_in, elements, sequence_counts}
use Rattle.analysis.specs.Counts.{
  ◌⊕◌,
  additional_defective,
  adding,
  capped_sum,
  decision,
  empty,
  modifier_defective,
  policy_redundant,
  removing,
  tag_conflicting,
  tag_forced,
  tag_redundant,
  total,
  unsanctioned,
}
use Rattle.analysis.specs.Rules.{bare, by_keycap, decided, first_asked, fixed, gives, outcome, run_with}
use Rattle.analysis.specs.declared.types.NonCanonicality.{NonCanonicality}
use Rattle.analysis.specs.Examples.{analysed, analysed_items}

-- ---- the rules, case by case

-- Rule 1: a base without a variation entry.
unfoldable pub WithoutEntry : Type 0
WithoutEntry =
    (p : Policy) (c : ℕ) (k : Class) (s : List Presentation) → has_variation_sequence c ≡ false
    → outcome p c k s ≡ gives (unsanctioned (length s)) bare

-- Rules 2 and 3: a base before a modifier.
unfoldable pub BeforeModifier : Type 0
BeforeModifier =
    (p : Policy) (c : ℕ) (s : List Presentation) → has_variation_sequence c ≡ true
    → (outcome p c modifier (Text ∷ s) ≡ gives (unsanctioned (length s)) (fixed Text))
    × (outcome p c modifier [] ≡ gives empty bare)
    × (is_emoji_modifier_base c ≡ true → outcome p c modifier (Emoji ∷ s) ≡ gives (modifier_defective ⊕ unsanctioned (length s)) bare)
    × (is_emoji_modifier_base c ≡ false → outcome p c modifier (Emoji ∷ s) ≡ gives (additional_defective ⊕ unsanctioned (length s)) bare)

-- Rules 4 and 5: a base before tags.
unfoldable pub BeforeTags : Type 0
BeforeTags =
    (p : Policy) (c : ℕ) (s : List Presentation) → has_variation_sequence c ≡ true
    → (is_emoji_default c ≡ true
    → (outcome p c tag [] ≡ gives empty bare)
    × (outcome p c tag (Emoji ∷ s) ≡ gives (tag_redundant ⊕ unsanctioned (length s)) bare)
    × (outcome p c tag (Text ∷ s) ≡ gives (tag_conflicting ⊕ unsanctioned (length s)) bare))
    × (is_emoji_default c ≡ false
    → (outcome p c tag [] ≡ gives tag_forced (fixed Emoji))
    × (outcome p c tag (Emoji ∷ s) ≡ gives (unsanctioned (length s)) (fixed Emoji))
    × (outcome p c tag (Text ∷ s) ≡ gives (tag_conflicting ⊕ tag_forced ⊕ unsanctioned (length s)) (fixed Emoji)))

-- Rule 6: a base before any other character, or at the end. The keycap sets hold before 20E3.
unfoldable pub ByPolicy : Type 0
ByPolicy =
    (p : Policy) (c : ℕ) (k : Class) (s : List Presentation) → has_variation_sequence c ≡ true → k ≢ modifier → k ≢ tag
    → let keycaps = by_keycap k in
    (singleton_rule p c keycaps ≡ TextToBare
    → (outcome p c k [] ≡ gives empty bare)
    × (outcome p c k (Text ∷ s) ≡ gives (policy_redundant ⊕ unsanctioned (length s)) bare)
    × (outcome p c k (Emoji ∷ s) ≡ gives (unsanctioned (length s)) (fixed Emoji)))
    × (singleton_rule p c keycaps ≡ EmojiToBare
    → (outcome p c k [] ≡ gives empty bare)
    × (outcome p c k (Emoji ∷ s) ≡ gives (policy_redundant ⊕ unsanctioned (length s)) bare)
    × (outcome p c k (Text ∷ s) ≡ gives (unsanctioned (length s)) (fixed Text)))
    × (singleton_rule p c keycaps ≡ BareToText
    → (outcome p c k [] ≡ gives decision (decided Text))
    × ((q : Presentation) → outcome p c k (q ∷ s) ≡ gives (unsanctioned (length s)) (fixed q)))
    × (singleton_rule p c keycaps ≡ BareToEmoji
    → (outcome p c k [] ≡ gives decision (decided Emoji))
    × ((q : Presentation) → outcome p c k (q ∷ s) ≡ gives (unsanctioned (length s)) (fixed q)))

-- ---- the rules and the sums by numbers

-- The result of the rules depends only on the first selector and the number of selectors.
unfoldable pub RulesByNumbers : Type 0
RulesByNumbers =
    (p : Policy) (c : ℕ) (k : Class) (s : List Presentation) → outcome p c k s ≡ outcome p c k (run_with (first_asked s) (length s))

-- If the totals of two records of counts add up to at most the largest count, the sum that the code computes is the true sum.
unfoldable pub SumsAreWhole : Type 0
SumsAreWhole = (m n : NonCanonicality) → total m + total n ≤ most → capped_sum m n ≡ m ⊕ n

-- ---- the rules applied to their own result

-- Applied to a base with the selector that its rule gives it, under any decisions, the rules count nothing.
unfoldable pub RulesLeaveNoCount : Type 0
RulesLeaveNoCount =
    (p : Policy) (c : ℕ) (k : Class) (s ds : List Presentation) → (outcome p c k (chosen (outcome p c k s).slot ds)).counts ≡ empty

-- If the rules count nothing, the replacement has the same selectors.
unfoldable pub NoCountKeepsSelectors : Type 0
NoCountKeepsSelectors =
    (p : Policy) (c : ℕ) (k : Class) (s : List Presentation) → (outcome p c k s).counts ≡ empty → chosen (outcome p c k s).slot [] ≡ s

-- ---- counts and replacement

-- "A finding exists if some count is not 0": an item is no finding exactly if all its eight counts are 0.
unfoldable pub NoFindingNoCount : Type 0
NoFindingNoCount = (p : Policy) (x : Item) → (is_finding p x ≡ false) ↔ (non_canonicality p x ≡ empty)

-- The replacement of an item, under any decisions, has no finding: all counts of its items are 0.
unfoldable pub ReplacementHasNoCount : Type 0
ReplacementHasNoCount =
    (p : Policy) (t : List ℕ) (x : Item) (ds : List Presentation) → Memᴰ x (items t)
    → (y : Item) → Memᴰ y (items (replacement p x ds)) → non_canonicality p y ≡ empty

-- The replacement has the same characters other than selectors, in the same order.
unfoldable pub ReplacementKeepsCharacters : Type 0
ReplacementKeepsCharacters =
    (p : Policy) (t : List ℕ) (x : Item) (ds : List Presentation) → Memᴰ x (items t)
    → strip (replacement p x ds) ≡ strip x.chars

-- The replacement of a links-only or emoji-headed item is again one item of the same kind.
unfoldable pub ReplacementIsOneItem : Type 0
ReplacementIsOneItem =
    (p : Policy) (t : List ℕ) (x : Item) (ds : List Presentation) → Memᴰ x (items t) → Structured x.kind
    → items (replacement p x ds) ≡ item x.kind (replacement p x ds) ∷ []

-- An item is no finding exactly if its default replacement is the item itself.
unfoldable pub NoFindingNoChange : Type 0
NoFindingNoChange =
    (p : Policy) (t : List ℕ) (x : Item) → Memᴰ x (items t)
    → (is_finding p x ≡ false) ↔ (default_replacement p x ≡ x.chars)

-- "The fifth and eighth add a selector each, the other six remove one each."
unfoldable pub SelectorsAddUp : Type 0
SelectorsAddUp =
    (p : Policy) (t : List ℕ) (x : Item) (ds : List Presentation) → Memᴰ x (items t)
    → selector_count (replacement p x ds) + removing (non_canonicality p x) ≡ selector_count x.chars + adding (non_canonicality p x)

-- The length of the replacement in characters is the item's, less the counts that remove, plus the counts that add.
unfoldable pub ReplacementLength : Type 0
ReplacementLength =
    (p : Policy) (t : List ℕ) (x : Item) (ds : List Presentation) → Memᴰ x (items t)
    → length (replacement p x ds) + removing (non_canonicality p x) ≡ length x.chars + adding (non_canonicality p x)

-- The length of the replacement in bytes is the item's, less 3 for each selector removed, plus 3 for each selector added.
unfoldable pub ReplacementBytes : Type 0
ReplacementBytes =
    (p : Policy) (t : List ℕ) (x : Item) (ds : List Presentation) → Memᴰ x (items t)
    → size width (replacement p x ds) + 3 * removing (non_canonicality p x) ≡ size width x.chars + 3 * adding (non_canonicality p x)

-- The replacement has at most four times the item's bytes.
unfoldable pub AtMostFourTimes : Type 0
AtMostFourTimes =
    (p : Policy) (t : List ℕ) (x : Item) (ds : List Presentation) → Memᴰ x (items t)
    → size width (replacement p x ds) ≤ 4 * size width x.chars

-- ---- choices

-- The number of choices is the eighth count.
unfoldable pub ChoicesAreCounted : Type 0
ChoicesAreCounted = (p : Policy) (x : Item) → length (choices p x) ≡ (non_canonicality p x).presentation_decisions

-- The default decisions are the choices' defaults.
unfoldable pub DefaultsAreChoices : Type 0
DefaultsAreChoices = (p : Policy) (x : Item) → default_decisions p x ≡ map (λ (c : Choice). c.default) (choices p x)

-- The replacement under the default decisions is the default replacement.
unfoldable pub DefaultDecisionsReplace : Type 0
DefaultDecisionsReplace = (p : Policy) (x : Item) → replacement p x (default_decisions p x) ≡ default_replacement p x

-- A walk over the bytes of an item from offset 0, from each choice to the next, finds exactly the item's choices, in order.
unfoldable pub ChoicesAreWalked : Type 0
ChoicesAreWalked =
    (p : Policy) (raw : List ℕ) (x : Item) → chars raw ≡ x.chars → Structured x.kind → Meets p raw 0 (choices p x)

-- ---- by the nested structure

-- The counts by the structure, in document 01's words: selectors after links, flag letters and modifications are unsanctioned, and
-- a single base is counted by the rules with its first modification.
unfoldable pub CountsByStructure : Type 0
CountsByStructure =
    (p : Policy) (t : List ℕ) (x : Item) → Memᴰ x (items t) → Structured x.kind
    → non_canonicality p x ≡ sequence_counts p (structure x.chars)

-- The replacement under any decisions is the pieces of links and units, one after the other.
unfoldable pub ReplacementByStructure : Type 0
ReplacementByStructure =
    (p : Policy) (t : List ℕ) (x : Item) (ds : List Presentation) → Memᴰ x (items t) → Structured x.kind
    → replacement p x ds ≡ assemble (elements p (structure x.chars)) ds

-- The choices are the units whose base takes a decision. A choice's two replacements are the whole unit under either decision.
unfoldable pub ChoicesByStructure : Type 0
ChoicesByStructure =
    (p : Policy) (t : List ℕ) (x : Item) → Memᴰ x (items t) → Structured x.kind
    → choices p x ≡ choices_in (elements p (structure x.chars))

-- ---- examples; document 01's worked texts are in formatter, specs/Worked.antt

-- Examples beside the worked texts: rule 1 before rule 3 (1F476 is a modifier base without an entry), rule 4, tag-forced alone, and
-- selectors after a link and after modifications.
unfoldable pub RuleExamples : Type 0
RuleExamples =
    (analysed_items (0x1F476 ∷ 0xFE0F ∷ 0x1F3FB ∷ [])
    ≡ analysed (0x1F476 ∷ 0xFE0F ∷ 0x1F3FB ∷ []) (unsanctioned 1) (0x1F476 ∷ 0x1F3FB ∷ []) ∷ [])
    × (analysed_items (0x231A ∷ 0xFE0F ∷ 0xE0061 ∷ []) ≡ analysed (0x231A ∷ 0xFE0F ∷ 0xE0061 ∷ []) tag_redundant (0x231A ∷ 0xE0061 ∷ [])
    ∷ [])
    × (analysed_items (0x231A ∷ 0xFE0E ∷ 0xE0061 ∷ [])
    ≡ analysed (0x231A ∷ 0xFE0E ∷ 0xE0061 ∷ []) tag_conflicting (0x231A ∷ 0xE0061 ∷ []) ∷ [])
    × (analysed_items (0x2764 ∷ 0xE0061 ∷ []) ≡ analysed (0x2764 ∷ 0xE0061 ∷ []) tag_forced (0x2764 ∷ 0xFE0F ∷ 0xE0061 ∷ []) ∷ [])
    × (analysed_items (0x2764 ∷ 0xFE0F ∷ 0x200D ∷ 0xFE0F ∷ 0x1F525 ∷ 0xFE0F ∷ [])
    ≡ analysed (0x2764 ∷ 0xFE0F ∷ 0x200D ∷ 0xFE0F ∷ 0x1F525 ∷ 0xFE0F ∷ []) (unsanctioned 2) (0x2764 ∷ 0xFE0F ∷ 0x200D ∷ 0x1F525 ∷ []) ∷ [])
    × (analysed_items (0x31 ∷ 0xFE0F ∷ 0x20E3 ∷ 0xFE0F ∷ [])
    ≡ analysed (0x31 ∷ 0xFE0F ∷ 0x20E3 ∷ 0xFE0F ∷ []) (unsanctioned 1) (0x31 ∷ 0xFE0F ∷ 0x20E3 ∷ []) ∷ [])

-- A choice's two replacements are the whole unit, without the selectors of its modifications; each unit has its own choice.
unfoldable pub ChoiceExamples : Type 0
ChoiceExamples =
    (choices default_policy (item EmojiHeaded (0x31 ∷ 0x20E3 ∷ 0xFE0F ∷ []))
    ≡ record { default = Text; text = 0x31 ∷ 0xFE0E ∷ 0x20E3 ∷ []; emoji = 0x31 ∷ 0xFE0F ∷ 0x20E3 ∷ [] } ∷ [])
    × (choices default_policy (item EmojiHeaded (0x2764 ∷ 0x200D ∷ 0x231A ∷ 0x200D ∷ 0x23 ∷ 0x20E3 ∷ 0x200D ∷ []))
    ≡ record { default = Text; text = 0x2764 ∷ 0xFE0E ∷ []; emoji = 0x2764 ∷ 0xFE0F ∷ [] }
    ∷ record { default = Text; text = 0x23 ∷ 0xFE0E ∷ 0x20E3 ∷ []; emoji = 0x23 ∷ 0xFE0F ∷ 0x20E3 ∷ [] } ∷ [])

-- Decisions go in text order, and a missing one means the default.
unfoldable pub DecisionExamples : Type 0
DecisionExamples =
    (replacement default_policy (item EmojiHeaded (0x2764 ∷ 0x200D ∷ 0x23 ∷ 0x20E3 ∷ [])) (Emoji ∷ Text ∷ [])
    ≡ 0x2764 ∷ 0xFE0F ∷ 0x200D ∷ 0x23 ∷ 0xFE0E ∷ 0x20E3 ∷ [])
    × (replacement default_policy (item EmojiHeaded (0x2764 ∷ 0x200D ∷ 0x23 ∷ 0x20E3 ∷ [])) (Text ∷ Emoji ∷ [])
    ≡ 0x2764 ∷ 0xFE0E ∷ 0x200D ∷ 0x23 ∷ 0xFE0F ∷ 0x20E3 ∷ [])
    × (replacement default_policy (item EmojiHeaded (0x2764 ∷ 0x200D ∷ 0x23 ∷ 0x20E3 ∷ [])) (Emoji ∷ [])
    ≡ 0x2764 ∷ 0xFE0F ∷ 0x200D ∷ 0x23 ∷ 0xFE0E ∷ 0x20E3 ∷ [])
