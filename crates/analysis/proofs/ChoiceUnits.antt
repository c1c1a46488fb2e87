-- The bytes of the unit at an offset: they are within the slice, their cells are the unit's, and writing these cells writes the
-- unit.
use Rattle.base.specs.declared.Refusal.{Refusal}
use Rattle.std.specs.Prelude.{Ok, Err, Result}
use mathlib.Core.Path.{◌≡◌, refl, ap, sym, ◌∙◌, subst}
use mathlib.Core.Bool.{Bool, true, false, cond}
use mathlib.Core.List.{List, [], ◌∷◌, ◌++◌, append_assoc, map}
use Prim.Native.Nat.{ℕ, ◌+◌, ◌-◌, ◌≤◌, ◌<◌}
use native.Mathlib.Omega.{arith}
use lib.Dec.{eqb}
use lib.ListN.{drop, length, length-drop, take}
use borrow.Author.Tests.{le-leb, lt-leb}
use Rattle.base.specs.Refusals.{After, unwritten, text_limit}
use Rattle.base.specs.declared.Refusal.TheVariants.{TextTooLong}
use Rattle.utf8.specs.Rfc3629.{all_scalar, chars, encode_all}
use Rattle.utf8.proofs.Fronts.{read_char-past_end}
use Rattle.utf8.proofs.Places.{stop_end}
use Rattle.utf8.proofs.Texts.{chars-all_scalar, chars-encode_all-alone, valid_up_to_le}
use Rattle.emoji.specs.Presentation.{as_selector}
use Rattle.emoji.specs.declared.presentation.Presentation.{Presentation}
use Rattle.policy.specs.declared.Policy.{Policy}
use Rattle.scanner.specs.Spans.{size, width}
use Rattle.scanner.proofs.Bytes.{scalar-front, size-chars, size-width, take_chars_lem}
use Rattle.scanner.proofs.Rescan.{size_append}
use Rattle.analysis.specs.Analysis.{render, renew, up_to_link}
use Rattle.analysis.specs.Cells.{Cell, cells, leading, split, unsplit}
use Rattle.analysis.specs.ChoicesAt.{cells_length, cells_from, cells_start, front_unit, replace_unit}
use Rattle.analysis.specs.Decisions.{write_out}
use Rattle.analysis.proofs.Cells.{SelectorFree, cell_and, selector_free_cells, no_cell, split_selectors, split-unsplit, split-whole}
use Rattle.analysis.proofs.ChoicesAt.{selectors_bytes}

-- ---- the unit is a beginning of the cells

-- The list s is a beginning of the list t.
pub record Begins (s t : List ℕ) : Type 0 where
  pub rest : List ℕ
  pub whole : t ≡ s ++ rest

after : (s : List ℕ) {t u : List ℕ} → Begins t u → Begins (s ++ t) (s ++ u)
after s {t} b = record { rest = b.rest; whole = ap (λ (l : List ℕ). s ++ l) b.whole ∙ sym (append_assoc s t b.rest) }

up_begins : (xs : List Cell) → Begins (unsplit (up_to_link xs)) (unsplit xs)
unfolding up_to_link
up_begins [] = record { rest = []; whole = refl }
up_begins (x ∷ xs) = go (eqb x.char 0x200D) (up_begins xs)
  where
    go : (b : Bool) → Begins (unsplit (up_to_link xs)) (unsplit xs) → Begins (unsplit (cond b [] (x ∷ up_to_link xs))) (unsplit (x ∷ xs))
    go true h = record { rest = unsplit (x ∷ xs); whole = refl }
    go false h = after (x.char ∷ map as_selector x.after) h

unit_begins : (xs : List Cell) → Begins (unsplit (front_unit xs)) (unsplit xs)
unfolding front_unit
unit_begins [] = record { rest = []; whole = refl }
unit_begins (x ∷ xs) = after (x.char ∷ map as_selector x.after) (up_begins xs)

selector_free_up : {xs : List Cell} → SelectorFree xs → SelectorFree (up_to_link xs)
unfolding up_to_link
selector_free_up no_cell = no_cell
selector_free_up (cell_and {x = x} {xs = xs} e h) = go (eqb x.char 0x200D) (selector_free_up h)
  where
    go : (b : Bool) → SelectorFree (up_to_link xs) → SelectorFree (cond b [] (x ∷ up_to_link xs))
    go true h = no_cell
    go false h = cell_and e h

selector_free_unit : {xs : List Cell} → SelectorFree xs → SelectorFree (front_unit xs)
unfolding front_unit
selector_free_unit no_cell = no_cell
selector_free_unit (cell_and e h) = cell_and e (selector_free_up h)

-- ---- the bytes of the unit

module _ (raw : List ℕ) (at end : ℕ) (e : end ≡ cells_start raw at + cells_length (front_unit (cells_from raw at))) where
  abbrev t : List ℕ
  t = chars (drop at raw)

  -- The characters from the offset to the end of the unit.
  abbrev front : List ℕ
  front = map as_selector (leading t) ++ unsplit (front_unit (cells t))

  begins : Begins front t
  begins = subst (Begins front) (split-whole t) (after (map as_selector (leading t)) (unit_begins (cells t)))

  front_bytes : end ≡ at + size width front
  front_bytes = omega (arith, selectors_bytes (leading t) (unsplit (front_unit (cells t))))

  pub unit_room : at ≤ length raw → end ≤ length raw
  unit_room h =
      omega (
        arith,
        front_bytes,
        ap (size width) begins.whole,
        size_append width front begins.rest,
        size-chars (drop at raw),
        valid_up_to_le (drop at raw),
        length-drop at raw,
      )

  -- The cells of the bytes up to the unit's end are the unit's.
  pub unit_cells : cells (chars (take (end - at) (drop at raw))) ≡ front_unit (cells_from raw at)
  unit_cells =
      let n : end - at ≡ length (encode_all front) = omega (arith, front_bytes, size-width front) in
      let c : chars (take (end - at) (drop at raw)) ≡ front =
      ap (λ (m : ℕ). chars (take m (drop at raw))) n ∙ ap chars (take_chars_lem (drop at raw) front begins.rest begins.whole)
      ∙ chars-encode_all-alone front (scalar-front front begins.rest
      (ap all_scalar (sym begins.whole) ∙ chars-all_scalar (drop at raw))) in
      ap cells c ∙ ap (λ (a : List Presentation × List Cell). a.1) (split_selectors (leading t) (unsplit (front_unit (cells t))))
      ∙ ap (λ (a : List Presentation × List Cell). a.1) (split-unsplit (selector_free_unit (selector_free_cells t)))

-- ---- the call that writes the unit

module _ (p : Policy) (raw : List ℕ) (at : ℕ) (q : Presentation) (out : List ℕ) where
  pub replace_long : text_limit < length raw → unwritten (Err TextTooLong) out ≡ replace_unit p raw at q out
  unfolding replace_unit
  replace_long h = simp (lt-leb (length raw) text_limit h)

  module _ (h : length raw ≤ text_limit) where
    pub replace-unit : {a : After (Result ℕ Refusal) ℕ}
        → a ≡ write_out (encode_all (render p (front_unit (cells_from raw at)) (q ∷ []))) out → a
        ≡ replace_unit p raw at q out
    unfolding replace_unit
    replace-unit e = e ∙ simp (le-leb (length raw) text_limit h)

    -- At or after the end of the slice there is no unit.
    pub replace-none : length raw ≤ at → record { answer = Ok 0; buffer = out } ≡ replace_unit p raw at q out
    unfolding front_unit render renew encode_all split
    replace-none g =
        let w : (xs : List Cell) → List ℕ = λ xs. encode_all (render p (front_unit xs) (q ∷ [])) in
        let n : record { answer = Ok 0; buffer = out } ≡ write_out (w []) out = sym (simp (le-leb 0 (length out) (omega arith))) in
        replace-unit (n ∙ ap (λ (l : List ℕ). write_out (w (cells l)) out) (sym (stop_end raw at (read_char-past_end raw at g)).chars_none))
