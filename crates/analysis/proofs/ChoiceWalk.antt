-- A walk over a slice from choice to choice finds the choices of its cells.
use mathlib.Core.Path.{◌≡◌, refl, ap, sym, ◌∙◌, subst}
use mathlib.Core.List.{List, [], ◌∷◌, ◌++◌, append_assoc, map}
use Prim.Native.Nat.{ℕ, ◌+◌}
use native.Mathlib.Omega.{arith}
use lib.ListN.{drop, length}
use Rattle.utf8.specs.Rfc3629.{chars}
use Rattle.emoji.specs.Presentation.{as_selector}
use Rattle.emoji.specs.declared.presentation.Presentation.{Presentation}
use Rattle.emoji.specs.declared.presentation.Presentation.TheVariants.{Emoji, Text}
use Rattle.policy.specs.declared.Policy.{Policy}
use Rattle.scanner.specs.Items.{Item}
use Rattle.scanner.specs.Theorems.{Structured}
use Rattle.scanner.proofs.Bytes.{chars-from}
use Rattle.analysis.specs.Analysis.{Choice, add_choice, choices, choices_of, choices_of_cells, outcome_at, render, up_to_link}
use Rattle.analysis.specs.Cells.{Cell, cells, split, unsplit}
use Rattle.analysis.specs.ChoicesAt.{
  IsChoice,
  Meets,
  add_choice_at,
  cells_length,
  cells_from,
  cells_start,
  choice_at,
  choices_from,
  first_choice,
  front_unit,
  no_more,
  one_more,
}
use Rattle.analysis.specs.Rules.{Slot, bare, decided, fixed}
use Rattle.analysis.specs.declared.types.ReplacementChoice.{ReplacementChoice}
use Rattle.analysis.proofs.Cells.{SelectorFree, cell_and, selector_free_cells, split-unsplit, split-whole}
use Rattle.analysis.proofs.ChoicesAt.{cells-after}
use Rattle.analysis.proofs.ChoiceUnits.{unit_cells}
use Rattle.analysis.proofs.Components.{of_structured}

module _ (p : Policy) (raw : List ℕ) where
  -- A walk depends only on the first choice: it is the same from two offsets with the same first choice.
  meets-same : {at from : ℕ} {ks : List Choice} → choice_at p raw from ≡ choice_at p raw at → Meets p raw at ks → Meets p raw from ks
  meets-same e (no_more f) = no_more (e ∙ f)
  meets-same e (one_more c f i m) = one_more c (e ∙ f) i m

  -- ---- at an offset where a cell begins

  module _ (at : ℕ) (xs : List Cell) (e : split (chars (drop at raw)) ≡ ([], xs)) where
    start_is : cells_start raw at ≡ at
    start_is = omega (arith, ap (λ (a : List Presentation × List Cell). length a.0) e)

    cells_are : cells_from raw at ≡ xs
    cells_are = ap (λ (a : List Presentation × List Cell). a.1) e

    choice-is : choice_at p raw at ≡ first_choice (choices_from p at xs)
    unfolding choice_at
    choice-is = λ i. first_choice (choices_from p (start_is i) (cells_are i))

  -- The cells after the first cell.
  others : (at : ℕ) (x : Cell) (xs : List Cell) → split (chars (drop at raw)) ≡ ([], x ∷ xs)
      → split (chars (drop (at + cells_length (x ∷ [])) raw)) ≡ ([], xs)
  others at x xs e =
      let t = chars (drop at raw) in
      let w : t ≡ unsplit (x ∷ []) ++ unsplit xs =
      sym (split-whole t) ∙ ap (λ (a : List Presentation × List Cell). map as_selector a.0 ++ unsplit a.1) e
      ∙ sym (append_assoc (x.char ∷ map as_selector x.after) [] (unsplit xs)) in
      ap split (chars-from raw at (unsplit (x ∷ [])) (unsplit xs) w)
      ∙ split-unsplit (tail (subst SelectorFree (ap (λ (a : List Presentation × List Cell). a.1) e) (selector_free_cells t)))
    where
      tail : {y : Cell} {ys : List Cell} → SelectorFree (y ∷ ys) → SelectorFree ys
      tail (cell_and f h) = h

  -- The choice at a decided cell.
  is_choice : (at : ℕ) (x : Cell) (xs : List Cell) (d : Presentation) → split (chars (drop at raw)) ≡ ([], x ∷ xs)
      → IsChoice p raw (record {
        start = at;
        end = at + cells_length (front_unit (x ∷ xs));
        next = at + cells_length (x ∷ []);
        default = d;
      })
      (record { default = d; text = render p (x ∷ up_to_link xs) (Text ∷ []); emoji = render p (x ∷ up_to_link xs) (Emoji ∷ []) })
  unfolding front_unit
  is_choice at x xs d e =
      let f = cells_are at (x ∷ xs) e in
      let n : at + cells_length (front_unit (x ∷ xs)) ≡ cells_start raw at + cells_length (front_unit (cells_from raw at)) =
      omega (arith, start_is at (x ∷ xs) e, ap (λ (l : List Cell). cells_length (front_unit l)) f) in
      record {
        default-is = refl;
        unit-is = unit_cells raw at (at + cells_length (front_unit (x ∷ xs))) n;
        text_is = ap (λ (l : List Cell). render p (front_unit l) (Text ∷ [])) f;
        emoji-is = ap (λ (l : List Cell). render p (front_unit l) (Emoji ∷ [])) f;
      }

  walk_cells : (xs : List Cell) (at : ℕ) → split (chars (drop at raw)) ≡ ([], xs) → Meets p raw at (choices_of_cells p xs)
  unfolding choices_of_cells choices_from first_choice
  walk_cells [] at e = no_more (choice-is at [] e)
  walk_cells (x ∷ xs) at e = go (outcome_at p x xs).slot refl (walk_cells xs (at + cells_length (x ∷ [])) (others at x xs e))
    where
      own : Presentation → ReplacementChoice
      own d = record { start = at; end = at + cells_length (front_unit (x ∷ xs)); next = at + cells_length (x ∷ []); default = d }

      first : (s : Slot) → (outcome_at p x xs).slot ≡ s → choice_at p raw at
          ≡ first_choice (add_choice_at s own (choices_from p (at + cells_length (x ∷ [])) xs))
      first s f = choice-is at (x ∷ xs) e
          ∙ ap (λ (s : Slot). first_choice (add_choice_at s own (choices_from p (at + cells_length (x ∷ [])) xs))) f

      go : (s : Slot) → (outcome_at p x xs).slot ≡ s → Meets p raw (at + cells_length (x ∷ [])) (choices_of_cells p xs)
          → Meets p raw at (add_choice p s (x ∷ up_to_link xs) (choices_of_cells p xs))
      go bare f m = meets-same (first bare f ∙ sym (choice-is (at + cells_length (x ∷ [])) xs (others at x xs e))) m
      go (fixed q) f m = meets-same (first (fixed q) f ∙ sym (choice-is (at + cells_length (x ∷ [])) xs (others at x xs e))) m
      go (decided d) f m = one_more (own d) (first (decided d) f) (is_choice at x xs d e) m

  -- From any offset on, the walk finds the choices of the cells there.
  pub walk : (at : ℕ) → Meets p raw at (choices_of_cells p (cells_from raw at))
  unfolding choice_at
  walk at = meets-same (sym (choice-is (cells_start raw at) (cells_from raw at) (cells-after raw at)))
      (walk_cells (cells_from raw at) (cells_start raw at) (cells-after raw at))

  -- From the start of an item's bytes, the walk finds the item's choices.
  pub walk_item : (x : Item) → chars raw ≡ x.chars → Structured x.kind → Meets p raw 0 (choices p x)
  unfolding choices choices_of
  walk_item x e o =
      let c : choices_of_cells p (cells_from raw 0)
      ≡ choices_of_cells p (cells x.chars) = ap (λ (t : List ℕ). choices_of_cells p (cells t)) e in
      subst (Meets p raw 0) (c ∙ sym (of_structured (λ k. choices_of p k x.chars) (choices_of_cells p (cells x.chars)) o refl refl))
      (walk 0)
