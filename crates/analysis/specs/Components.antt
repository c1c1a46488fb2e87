-- Counts, replacement and choices by the nested structure of links and units, in document 01's words and in the order of
-- analysis.rs. They are those of specs/Analysis.antt: specs/Theorems.antt, CountsByStructure, ReplacementByStructure and
-- ChoicesByStructure.
use Rattle.std.specs.Prelude.{List, [], ◌∷◌, ◌++◌, ℕ, length}
use Rattle.emoji.specs.Presentation.{as_selector}
use Rattle.emoji.specs.declared.presentation.Presentation.{Presentation}
use Rattle.emoji.specs.declared.presentation.Presentation.TheVariants.{Emoji, Text}
use Rattle.policy.specs.declared.Policy.{Policy}
use Rattle.scanner.specs.Classes.{strip}
use Rattle.scanner.specs.declared.char_class.Class.{Class}
use Rattle.scanner.specs.declared.char_class.Class.TheVariants.{Keycap as keycap, Modifier as modifier, Other as other, Tag as tag}
use Rattle.scanner.specs.Structure.{
  EmojiLike,
  EmojiModification,
  EmojiModifier,
  EmojiSequence,
  EmojiStem,
  EnclosingKeycap,
  Flag,
  SingletonBase,
  TagModifier,
  ZwjJoinedEmoji,
  ZwjLink,
  emoji_headed,
  flatten_modifications,
  links_only,
}
use Rattle.analysis.specs.Analysis.{Choice, decide, later_decisions}
use Rattle.analysis.specs.Cells.{leading, selector_count}
use Rattle.analysis.specs.Counts.{◌⊕◌, empty, unsanctioned}
use Rattle.analysis.specs.Rules.{Outcome, Slot, bare, decided, fixed, outcome}
use Rattle.analysis.specs.declared.types.NonCanonicality.{NonCanonicality}

-- ---- modifications

-- The class of the first modification; `other` if there is none.
unfoldable pub first_modification : List EmojiModification → Class
first_modification [] = other
first_modification (EmojiModifier c s ∷ ms) = modifier
first_modification (EnclosingKeycap s ∷ ms) = keycap
first_modification (TagModifier rs ∷ ms) = tag

-- "Selectors after .. modifications are unsanctioned."
abbrev pub modification_counts : List EmojiModification → NonCanonicality
modification_counts ms = unsanctioned (selector_count (flatten_modifications ms))

-- The characters of modifications in a replacement: without selectors.
abbrev pub modification_text : List EmojiModification → List ℕ
modification_text ms = strip (flatten_modifications ms)

-- ---- pieces of a replacement

-- A piece of a replacement: fixed characters, or one of a choice's two replacements.
pub data Element : Type 0 where
  always : List ℕ → Element
  choice : Choice → Element

-- The choices in a list of pieces.
unfoldable pub choices_in : List Element → List Choice
choices_in [] = []
choices_in (always t ∷ es) = choices_in es
choices_in (choice c ∷ es) = c ∷ choices_in es

-- The replacement of a choice for a decision.
abbrev pub option_of : Choice → Presentation → List ℕ
option_of c Text = c.text
option_of c Emoji = c.emoji

-- The pieces one after the other, under decisions in text order. A missing decision means the default.
unfoldable pub assemble : List Element → List Presentation → List ℕ
assemble [] ds = []
assemble (always t ∷ es) ds = t ++ assemble es ds
assemble (choice c ∷ es) ds = option_of c (decide c.default ds) ++ assemble es (later_decisions ds)

-- The piece for a single base, by its slot, with its modifications: the whole unit, for either decision.
unfoldable pub base_element : Slot → ℕ → List ℕ → Element
base_element bare c m = always (c ∷ m)
base_element (fixed q) c m = always (c ∷ as_selector q ∷ m)
base_element (decided d) c m = choice (record { default = d; text = c ∷ as_selector Text ∷ m; emoji = c ∷ as_selector Emoji ∷ m })

-- ---- links

-- "Selectors after links .. are unsanctioned."
unfoldable pub link_counts : List ZwjLink → NonCanonicality
link_counts [] = empty
link_counts (l ∷ ls) = unsanctioned (length l.after) ⊕ link_counts ls

-- Each link is written as 200D.
unfoldable pub link_elements : List ZwjLink → List Element
link_elements [] = []
link_elements (l ∷ ls) = always (0x200D ∷ []) ∷ link_elements ls

module _ (p : Policy) where
  -- ---- units

  -- "For a single base the first rule that fits holds", by the base, its first modification and its selectors.
  abbrev pub base_outcome : ℕ → List ℕ → List EmojiModification → Outcome
  base_outcome c s ms = outcome p c (first_modification ms) (leading s)

  -- "Selectors after .. flag letters and modifications are unsanctioned."
  unfoldable pub stem_counts : EmojiStem → List EmojiModification → NonCanonicality
  stem_counts (SingletonBase c s) ms = (base_outcome c s ms).counts ⊕ modification_counts ms
  stem_counts (Flag a s b t) ms = unsanctioned (length s) ⊕ (unsanctioned (length t) ⊕ modification_counts ms)

  -- The piece for a stem and its modifications; for a flag, its two letters and its modifications.
  unfoldable pub stem_element : EmojiStem → List EmojiModification → Element
  stem_element (SingletonBase c s) ms = base_element (base_outcome c s ms).slot c (modification_text ms)
  stem_element (Flag a s b t) ms = always (a ∷ b ∷ modification_text ms)

  -- The counts of a unit.
  abbrev pub unit_counts : EmojiLike → NonCanonicality
  unit_counts u = stem_counts u.stem u.modifiers

  -- The piece for a unit.
  abbrev pub unit_element : EmojiLike → Element
  unit_element u = stem_element u.stem u.modifiers

  -- ---- items

  -- The counts of the further units, each with its link.
  unfoldable pub joined_counts : List ZwjJoinedEmoji → NonCanonicality
  joined_counts [] = empty
  joined_counts (j ∷ js) = unsanctioned (length j.link.after) ⊕ (unit_counts j.emoji ⊕ joined_counts js)

  -- The pieces for the further units, each with its link.
  unfoldable pub joined_elements : List ZwjJoinedEmoji → List Element
  joined_elements [] = []
  joined_elements (j ∷ js) = always (0x200D ∷ []) ∷ unit_element j.emoji ∷ joined_elements js

  -- The counts of a structure.
  unfoldable pub sequence_counts : EmojiSequence → NonCanonicality
  sequence_counts (links_only ls) = link_counts ls
  sequence_counts (emoji_headed u js ls) = unit_counts u ⊕ (joined_counts js ⊕ link_counts ls)

  -- The pieces of the replacement of a structure.
  unfoldable pub elements : EmojiSequence → List Element
  elements (links_only ls) = link_elements ls
  elements (emoji_headed u js ls) = unit_element u ∷ (joined_elements js ++ link_elements ls)
