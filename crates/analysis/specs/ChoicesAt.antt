-- Contracts of helper functions: src/choice.rt of the crate replacing, which walks the choices of an item's bytes by offsets
-- (document 01, "Counts and finding": "its choices are, per decision, the default and the two replacements"). A choice is a unit
-- whose base takes a decision. Its two replacements are this unit under either decision.
-- That the walk returns the choices of the item is specs/Theorems.antt, ChoicesAreWalked.
use Rattle.base.specs.declared.Refusal.{Refusal}
use Rattle.std.specs.Prelude.{◌≡◌, List, [], ◌∷◌, ℕ, ◌+◌, ◌-◌, ◌*◌, drop, length, take, Some, None, Result, Option}
use Rattle.base.specs.Refusals.{After}
use Rattle.utf8.specs.Rfc3629.{chars, encode_all}
use Rattle.emoji.specs.declared.presentation.Presentation.{Presentation}
use Rattle.emoji.specs.declared.presentation.Presentation.TheVariants.{Emoji, Text}
use Rattle.policy.specs.declared.Policy.{Policy}
use Rattle.scanner.specs.Spans.{size, width}
use Rattle.analysis.specs.Analysis.{Choice, outcome_at, render, up_to_link}
use Rattle.analysis.specs.Cells.{Cell, cells, leading, unsplit}
use Rattle.analysis.specs.Decisions.{within_limit, write_out}
use Rattle.analysis.specs.Rules.{Slot, bare, decided, fixed}
use Rattle.analysis.specs.declared.types.ReplacementChoice.{ReplacementChoice}

-- The length of cells in bytes.
abbrev pub cells_length : List Cell → ℕ
cells_length xs = size width (unsplit xs)

-- The unit at the front of cells: the first cell, and the cells after it up to the next link.
unfoldable pub front_unit : List Cell → List Cell
front_unit [] = []
front_unit (x ∷ xs) = x ∷ up_to_link xs

-- The cells of a slice from an offset on.
abbrev pub cells_from : List ℕ → ℕ → List Cell
cells_from raw at = cells (chars (drop at raw))

-- The offset of the first of these cells: the end of the selectors at the offset.
abbrev pub cells_start : List ℕ → ℕ → ℕ
cells_start raw at = at + 3 * length (leading (chars (drop at raw)))

-- The choices, with a choice in front if the slot takes a decision.
abbrev pub add_choice_at : Slot → (Presentation → ReplacementChoice) → List ReplacementChoice → List ReplacementChoice
add_choice_at bare c l = l
add_choice_at (fixed q) c l = l
add_choice_at (decided d) c l = c d ∷ l

-- The first choice of a list, or the end.
unfoldable pub first_choice : List ReplacementChoice → Option ReplacementChoice
first_choice [] = None
first_choice (c ∷ cs) = Some c

module _ (p : Policy) where
  -- The choices of cells; the first cell begins at the offset. Each choice has the bytes of its unit, its default, and the end of
  -- its base's cell. The search for the next choice starts at that end.
  unfoldable pub choices_from : ℕ → List Cell → List ReplacementChoice
  choices_from at [] = []
  choices_from at (x ∷ xs) =
      let next = at + cells_length (x ∷ []) in
      add_choice_at (outcome_at p x xs).slot
      (λ (d : Presentation). record { start = at; end = at + cells_length (front_unit (x ∷ xs)); next = next; default = d })
      (choices_from next xs)

  -- The first choice of a slice from an offset on, or the end.
  unfoldable pub choice_at : List ℕ → ℕ → Option ReplacementChoice
  choice_at raw at = first_choice (choices_from (cells_start raw at) (cells_from raw at))

  -- The call that writes the unit at an offset under a decision: refusals 1 and 8, in this order.
  unfoldable pub replace_unit : List ℕ → ℕ → Presentation → List ℕ → After (Result ℕ Refusal) ℕ
  replace_unit raw at q out = within_limit raw out (write_out (encode_all (render p (front_unit (cells_from raw at)) (q ∷ []))) out)

  -- ---- the walk

  -- A choice by its offsets stands for the choice k: both have the same default; the bytes from start to end are the unit at the
  -- start; and this unit under either decision, as the call above writes it, is the replacement in k.
  pub record IsChoice (raw : List ℕ) (c : ReplacementChoice) (k : Choice) : Type 0 where
    pub default-is : c.default ≡ k.default
    pub unit-is : cells (chars (take (c.end - c.start) (drop c.start raw))) ≡ front_unit (cells_from raw c.start)
    pub text_is : render p (front_unit (cells_from raw c.start)) (Text ∷ []) ≡ k.text
    pub emoji-is : render p (front_unit (cells_from raw c.start)) (Emoji ∷ []) ≡ k.emoji

  -- A walk over a slice from an offset on, from each choice to the next, finds these choices and then the end.
  pub data Meets (raw : List ℕ) : ℕ → List Choice → Type 0 where
    no_more : {at : ℕ} → choice_at raw at ≡ None → Meets raw at []
    one_more : {at : ℕ} {k : Choice} {ks : List Choice} (c : ReplacementChoice) → choice_at raw at ≡ Some c → IsChoice raw c k
        → Meets raw c.next ks → Meets raw at (k ∷ ks)
