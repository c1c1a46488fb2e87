-- The counts, the replacement and the choices of an item under a policy (document 01, "Counts and finding", "Replacement and text").
use Rattle.std.specs.Prelude.{Bool, cond, not, List, [], ◌∷◌, ℕ, eqb, length}
use Rattle.emoji.specs.declared.presentation.Presentation.{Presentation}
use Rattle.emoji.specs.declared.presentation.Presentation.TheVariants.{Emoji, Text}
use Rattle.policy.specs.declared.Policy.{Policy}
use Rattle.scanner.specs.Classes.{class_of}
use Rattle.scanner.specs.declared.char_class.Class.{Class}
use Rattle.scanner.specs.declared.char_class.Class.TheVariants.{Other as other}
use Rattle.scanner.specs.Items.{Item}
use Rattle.scanner.specs.declared.ScanKind.{ScanKind}
use Rattle.scanner.specs.declared.ScanKind.TheVariants.{EmojiHeaded, LinksOnly, Passthrough, UnsanctionedPresentationSelectors}
use Rattle.analysis.specs.Cells.{Cell, cells, unsplit}
use Rattle.analysis.specs.Counts.{◌⊕◌, empty, total, unsanctioned}
use Rattle.analysis.specs.Rules.{Outcome, Slot, bare, decided, fixed, outcome}
use Rattle.analysis.specs.declared.types.NonCanonicality.{NonCanonicality}

-- ---- decisions

-- The decision for a base: the first of the remaining decisions, or the default if none is left.
abbrev pub decide : Presentation → List Presentation → Presentation
decide d [] = d
decide d (q ∷ ds) = q

-- The selectors that a slot holds under the decisions: none or one.
abbrev pub chosen : Slot → List Presentation → List Presentation
chosen bare ds = []
chosen (fixed q) ds = q ∷ []
chosen (decided d) ds = decide d ds ∷ []

-- The decisions that are left after a base that takes one.
abbrev pub later_decisions : List Presentation → List Presentation
later_decisions [] = []
later_decisions (q ∷ ds) = ds

-- "Decisions are .. in text order": the decisions that are left after a slot.
abbrev pub remaining : Slot → List Presentation → List Presentation
remaining bare ds = ds
remaining (fixed q) ds = ds
remaining (decided d) ds = later_decisions ds

-- The class of the character of the next cell, which is the first modification if one follows; `other` if no cell follows.
unfoldable pub following : List Cell → Class
following [] = other
following (x ∷ xs) = class_of x.char

module _ (p : Policy) where
  -- ---- counts

  -- The result of the rules for a cell before other cells. Only a single base has a variation entry, so for a link, a flag letter
  -- and a modification this is rule 1: "Selectors after links, flag letters and modifications are unsanctioned."
  abbrev pub outcome_at : Cell → List Cell → Outcome
  outcome_at x xs = outcome p x.char (following xs) x.after

  -- The sum of the counts of cells.
  unfoldable pub count_cells : List Cell → NonCanonicality
  count_cells [] = empty
  count_cells (x ∷ xs) = (outcome_at x xs).counts ⊕ count_cells xs

  -- The counts of an item, by its kind and its characters.
  unfoldable pub counts_of : ScanKind → List ℕ → NonCanonicality
  counts_of Passthrough t = empty
  counts_of UnsanctionedPresentationSelectors t = unsanctioned (length t)
  counts_of LinksOnly t = count_cells (cells t)
  counts_of EmojiHeaded t = count_cells (cells t)

  -- The eight counts of an item.
  unfoldable pub non_canonicality : Item → NonCanonicality
  non_canonicality x = counts_of x.kind x.chars

  -- "A finding exists if some count is not 0."
  abbrev pub is_finding : Item → Bool
  is_finding x = not (eqb (total (non_canonicality x)) 0)

  -- ---- replacement

  -- The cells with the selectors that the rules and the decisions give them.
  unfoldable pub renew : List Cell → List Presentation → List Cell
  renew [] ds = []
  renew (x ∷ xs) ds =
      let o = (outcome_at x xs).slot in
      record { char = x.char; after = chosen o ds } ∷ renew xs (remaining o ds)

  -- The characters of the renewed cells.
  unfoldable pub render : List Cell → List Presentation → List ℕ
  render xs ds = unsplit (renew xs ds)

  -- The replacement of an item, by its kind and its characters.
  unfoldable pub replacement_of : ScanKind → List ℕ → List Presentation → List ℕ
  replacement_of Passthrough t ds = t
  replacement_of UnsanctionedPresentationSelectors t ds = []
  replacement_of LinksOnly t ds = render (cells t) ds
  replacement_of EmojiHeaded t ds = render (cells t) ds

  -- The replacement of an item under decisions: `canonical_replacement_with_decisions`.
  unfoldable pub replacement : Item → List Presentation → List ℕ
  replacement x ds = replacement_of x.kind x.chars ds

  -- The replacement of an item with every decision at its default.
  abbrev pub default_replacement : Item → List ℕ
  default_replacement x = replacement x []

-- ---- choices

-- "its choices are, per decision, the default and the two replacements"
pub record Choice : Type 0 where
  pub default : Presentation
  pub text : List ℕ
  pub emoji : List ℕ

-- The cells up to the next link: after a base, these are the modifications of its unit.
unfoldable pub up_to_link : List Cell → List Cell
up_to_link [] = []
up_to_link (x ∷ xs) = cond (eqb x.char 0x200D) [] (x ∷ up_to_link xs)

-- The defaults, with the default of a decided slot in front.
abbrev pub add_default : Slot → List Presentation → List Presentation
add_default bare ds = ds
add_default (fixed q) ds = ds
add_default (decided d) ds = d ∷ ds

module _ (p : Policy) where
  -- The choices, with the choice of a decided slot in front. The cells are those of the slot's unit after the base.
  abbrev pub add_choice : Slot → List Cell → List Choice → List Choice
  add_choice bare unit l = l
  add_choice (fixed q) unit l = l
  add_choice (decided d) unit l =
      record { default = d; text = render p unit (Text ∷ []); emoji = render p unit (Emoji ∷ []) } ∷ l

  -- The choices of cells. A decided base is the first cell of its unit, and the next link ends the unit.
  unfoldable pub choices_of_cells : List Cell → List Choice
  choices_of_cells [] = []
  choices_of_cells (x ∷ xs) = add_choice (outcome_at p x xs).slot (x ∷ up_to_link xs) (choices_of_cells xs)

  -- The defaults of the choices of cells.
  unfoldable pub defaults_of_cells : List Cell → List Presentation
  defaults_of_cells [] = []
  defaults_of_cells (x ∷ xs) = add_default (outcome_at p x xs).slot (defaults_of_cells xs)

  -- The choices of an item, by its kind and its characters.
  unfoldable pub choices_of : ScanKind → List ℕ → List Choice
  choices_of Passthrough t = []
  choices_of UnsanctionedPresentationSelectors t = []
  choices_of LinksOnly t = choices_of_cells (cells t)
  choices_of EmojiHeaded t = choices_of_cells (cells t)

  -- The choices of an item, one for each decision.
  unfoldable pub choices : Item → List Choice
  choices x = choices_of x.kind x.chars

  -- The default decisions of an item, by its kind and its characters.
  unfoldable pub defaults_for : ScanKind → List ℕ → List Presentation
  defaults_for Passthrough t = []
  defaults_for UnsanctionedPresentationSelectors t = []
  defaults_for LinksOnly t = defaults_of_cells (cells t)
  defaults_for EmojiHeaded t = defaults_of_cells (cells t)

  -- The default decisions of an item: `default_decisions`.
  unfoldable pub default_decisions : Item → List Presentation
  default_decisions x = defaults_for x.kind x.chars
