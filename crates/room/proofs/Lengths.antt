-- The length of cells in bytes, before formatting and after it.
use mathlib.Core.Path.{◌≡◌, refl, ap, ◌∙◌}
use mathlib.Core.Bool.{false}
use mathlib.Core.List.{List, [], ◌∷◌}
use mathlib.Core.Logic.{⊎_elim}
use Prim.Native.Nat.{ℕ, ◌+◌, ◌*◌, ◌≤◌}
use native.Mathlib.Omega.{arith}
use lib.ListN.{length}
use borrow.Author.Tests.{ltb-false}
use Rattle.base.proofs.Tests.{le_or_lt}
use Rattle.utf8.proofs.Encoding.{encode_2, encode_3, encode_4}
use Rattle.emoji.specs.declared.presentation.Presentation.{Presentation}
use Rattle.policy_key_set.specs.KeySets.{is_ascii}
use Rattle.policy.specs.declared.Policy.{Policy}
use Rattle.scanner.specs.Spans.{size, width}
use Rattle.analysis.specs.Analysis.{chosen, outcome_at, render, renew}
use Rattle.analysis.specs.CellView.{format_cells}
use Rattle.analysis.specs.Cells.{Cell, cells, leading, unsplit}
use Rattle.analysis.specs.Helpers.{slot_length}
use Rattle.analysis.specs.declared.singleton.Slot.{Slot}
use Rattle.analysis.specs.declared.singleton.Slot.TheVariants.{Bare as bare, Decided as decided, Fixed as fixed}
use Rattle.analysis.proofs.Cells.{split-whole}
use Rattle.analysis.proofs.ChoicesAt.{selectors_bytes}
use Rattle.analysis.proofs.Replacement.{remaining-none}

-- A cell has the bytes of its character, and three bytes for each selector.
abbrev pub length_in : List Cell → ℕ
length_in [] = 0
length_in (x ∷ xs) = width x.char + 3 * length x.after + length_in xs

length_unsplit : (xs : List Cell) → size width (unsplit xs) ≡ length_in xs
length_unsplit [] = refl
length_unsplit (x ∷ xs) = omega (arith, selectors_bytes x.after (unsplit xs), length_unsplit xs)

-- The cells of a text have at most its bytes: the leading selectors are in no cell.
pub length_in_lem : (t : List ℕ) → length_in (cells t) ≤ size width t
length_in_lem t =
    omega (arith, ap (size width) (split-whole t), selectors_bytes (leading t) (unsplit (cells t)), length_unsplit (cells t))

module _ (p : Policy) where
  -- The number of bytes of the selector after a cell's character, when formatted.
  abbrev pub slot_at : Cell → List Cell → ℕ
  slot_at x xs = slot_length (outcome_at p x xs).slot

  -- When formatted, a cell has the bytes of its character and those of its slot.
  abbrev pub length_out_lem : List Cell → ℕ
  length_out_lem [] = 0
  length_out_lem (x ∷ xs) = width x.char + slot_at x xs + length_out_lem xs

  chosen_length : (o : Slot) → 3 * length (chosen o []) ≡ slot_length o
  chosen_length bare = omega arith
  chosen_length (fixed q) = omega arith
  chosen_length (decided d) = omega arith

  length_renew : (xs : List Cell) → length_in (renew p xs []) ≡ length_out_lem xs
  unfolding renew
  length_renew [] = refl
  length_renew (x ∷ xs) =
      let o = (outcome_at p x xs).slot in
      let r = ap (λ (ds : List Presentation). length_in (renew p xs ds)) (remaining-none o) in
      omega (arith, chosen_length o, r, length_renew xs)

  -- The length of the formatted characters.
  pub length_out : (t : List ℕ) → size width (format_cells p t) ≡ length_out_lem (cells t)
  unfolding format_cells render
  length_out t = length_unsplit (renew p (cells t) []) ∙ length_renew (cells t)

-- A character that is not ASCII has two bytes or more.
pub two_bytes : (c : ℕ) → is_ascii c ≡ false → 2 ≤ width c
unfolding width
two_bytes c e =
    let h : 0x80 ≤ c = ltb-false _ _ e in
    ⊎_elim (λ i. omega (arith, ap length (encode_2 c h i)))
    (λ l. ⊎_elim (λ i. omega (arith, ap length (encode_3 c l i))) (λ m. omega (arith, ap length (encode_4 c m))) (le_or_lt c 0xFFFF))
    (le_or_lt c 0x7FF)
