-- Writing cells into a lent buffer, one after the other: the decisions as bytes, the bytes still to be written at an offset, and
-- that their length is the same under all decisions.
use Rattle.std.specs.Prelude.{Ok, Err, Some, None, Result, Option}
use mathlib.Core.Path.{◌≡◌, refl, ap, ap₂, sym, ◌∙◌}
use mathlib.Core.Bool.{true, false}
use mathlib.Core.List.{List, [], ◌∷◌, ◌++◌, map, append_assoc, append-nil}
use Prim.Native.Nat.{ℕ, ◌+◌, ◌*◌, ◌≤◌}
use native.Mathlib.Nat.{add-zero}
use native.Mathlib.Omega.{arith}
use lib.ListN.{drop, length}
use lib.Seq.{drop-drop}
use Rattle.base.specs.Output.{PutAt}
use Rattle.base.specs.Refusals.{text_limit}
use Rattle.base.specs.Sums.{capped}
use Rattle.base.proofs.Sums.{capped-held}
use Rattle.utf8.specs.Rfc3629.{chars, encode, encode_all, is_scalar}
use Rattle.utf8_encoding.specs.Write.{after_write_char, write_char}
use Rattle.utf8_encoding.specs.declared.WriteCharError.{WriteCharError}
use Rattle.utf8_encoding.proofs.Answers.{after_write_char_sets, written}
use Rattle.utf8.proofs.Places.{Step, Stop}
use Rattle.utf8.proofs.Texts.{encode_all_append, valid_up_to_le}
use Rattle.emoji.specs.Presentation.{as_selector, is_selector}
use Rattle.emoji.specs.declared.presentation.Presentation.{Presentation}
use Rattle.emoji.specs.declared.presentation.Presentation.TheVariants.{Emoji, Text}
use Rattle.policy.specs.declared.Policy.{Policy}
use Rattle.scanner.specs.Spans.{size, width}
use Rattle.scanner.proofs.Bytes.{size-chars, size-width}
use Rattle.analysis.specs.Analysis.{chosen, following, later_decisions, remaining, render, renew}
use Rattle.analysis.specs.CellView.{format_cells}
use Rattle.analysis.specs.Cells.{Cell, cells, leading, split}
use Rattle.analysis.specs.Helpers.{cell_bytes, decisions_used}
use Rattle.analysis.specs.Decisions.{meaning}
use Rattle.analysis.specs.Rules.{Outcome, Slot, bare, decided, fixed, outcome, run_with}
use Rattle.analysis.proofs.Cells.{selector_free_cells, count-unsplit, front-char}
use Rattle.analysis.proofs.CellsAt.{split_at}
use Rattle.analysis.proofs.Lengths.{bytes_parts, render_bytes}
use Rattle.analysis.proofs.Replacement.{selector_free_renew, render_cons, renew_balances, renewed, strip_render}

-- ---- one character

-- If there is room for a scalar value, its bytes are written.
module _ (v : ℕ) (o : List ℕ) (at : ℕ) (s : is_scalar v ≡ true) (h : at + length (encode v) ≤ length o) (a : Result ℕ WriteCharError)
    (e : a ≡ write_char v o at) where
  answer_is : a ≡ Ok (length (encode v))
  answer_is = e ∙ sym (written v o at (length (encode v)) refl s h).0.same

  pub width_is : (w : ℕ) → a ≡ Ok w → w ≡ length (encode v)
  width_is w f = let g : Ok w ≡ Ok (length (encode v)) = sym f ∙ answer_is in cc g

  pub char_put : (w : ℕ) (after : List ℕ) → a ≡ Ok w → after ≡ after_write_char v o at → PutAt o at (encode v) after (at + w)
  char_put w after f g = record { ends = ap (λ (n : ℕ). at + n) (width_is w f); bytes = g ∙ after_write_char_sets v o at s h }

  pub not_error : (r : WriteCharError) → a ≡ Err r → ⊥
  not_error r f = let g : Err r ≡ Ok (length (encode v)) = sym f ∙ answer_is in let z : ◌≡◌ {A = ℕ} 0 1 = cc g in omega arith

-- ---- one selector

pub selector_scalar : (q : Presentation) → is_scalar (as_selector q) ≡ true
unfolding is_scalar as_selector
selector_scalar Text = refl
selector_scalar Emoji = refl

pub bytes_selector : (s : Option Presentation) (q : Presentation) (c : ℕ) → s ≡ Some q → c ≡ as_selector q → encode c
    ≡ encode_all (map as_selector (run_with s 1))
unfolding run_with encode_all
bytes_selector s q c e f =
    ap encode f ∙ sym (append-nil (encode (as_selector q)))
    ∙ ap (λ (x : Option Presentation). encode_all (map as_selector (run_with x 1))) (sym e)

pub bytes_none : (s : Option Presentation) → s ≡ None → [] ≡ encode_all (map as_selector (run_with s 1))
unfolding run_with encode_all
bytes_none s e = ap (λ (x : Option Presentation). encode_all (map as_selector (run_with x 1))) (sym e)

-- ---- the decisions from an index on

later_drop : (ds : List ℕ) → later_decisions (map meaning ds) ≡ map meaning (drop 1 ds)
later_drop [] = refl
later_drop (d ∷ ds) = refl

-- The decisions left after a slot are those from the next index on.
remaining_drop : (o : Slot) (ds : List ℕ) (i : ℕ) → remaining o (map meaning (drop i ds)) ≡ map meaning (drop (i + decisions_used o) ds)
remaining_drop bare ds i = ap (λ (n : ℕ). map meaning (drop n ds)) (sym (add-zero i))
remaining_drop (fixed q) ds i = ap (λ (n : ℕ). map meaning (drop n ds)) (sym (add-zero i))
remaining_drop (decided d) ds i = later_drop (drop i ds) ∙ ap (map meaning) (drop-drop 1 i ds)

pub used-few : (o : Slot) → decisions_used o ≤ 1
used-few bare = omega arith
used-few (fixed q) = omega arith
used-few (decided d) = omega arith

-- ---- the bytes still to be written

-- The bytes of the cells of a slice from an offset on, under the decisions from an index on.
abbrev pub bytes_from : Policy → List ℕ → List ℕ → ℕ → ℕ → List ℕ
bytes_from p text ds at i = encode_all (render p (cells (chars (drop at text))) (map meaning (drop i ds)))

module _ (p : Policy) (text ds : List ℕ) (at i : ℕ) where
  -- If no character begins at the offset, no bytes are still to be written.
  pub bytes_from-none : Stop text at → bytes_from p text ds at i ≡ []
  unfolding split render renew encode_all
  bytes_from-none h = ap (λ (t : List ℕ). encode_all (render p (cells t) (map meaning (drop i ds)))) h.chars_none

  -- Leading selectors are skipped.
  pub bytes_from-leading : {end : ℕ} → end ≡ at + 3 * length (leading (chars (drop at text)))
      → bytes_from p text ds at i ≡ bytes_from p text ds end i
  bytes_from-leading e = ap (λ (a : List Presentation × List Cell). encode_all (render p a.1 (map meaning (drop i ds))))
      (sym (split_at text at e))

  -- For a cell: its character and the selector that its slot holds, then the bytes for the cells after it.
  pub bytes_from-cell : {v w : ℕ} → Step text at v w → leading (chars (drop at text)) ≡ [] → (o : Outcome) (end : ℕ)
      → o ≡ outcome p v (following (cells (chars (drop (at + w) text)))) (leading (chars (drop (at + w) text)))
      → end ≡ at + w + 3 * length (leading (chars (drop (at + w) text)))
      → bytes_from p text ds at i ≡ cell_bytes v o.slot (map meaning (drop i ds)) ++ bytes_from p text ds end (i + decisions_used o.slot)
  unfolding renewed encode_all
  bytes_from-cell {v} {w} h l o end f g =
      let t = chars (drop (at + w) text) in
      let ms = map meaning (drop i ds) in
      let e : is_selector v ≡ false = front-char v t (ap leading (sym h.chars_on) ∙ l) in
      let same : cells (chars (drop end text)) ≡ cells t = ap (λ (a : List Presentation × List Cell). a.1) (split_at text (at + w) g) in
      ap (λ (x : List ℕ). encode_all (render p (cells x) ms)) h.chars_on ∙ ap encode_all (render_cons p v t ms e)
      ∙ ap (λ (x : Outcome). encode v ++ encode_all (map as_selector (chosen x.slot ms) ++ render p (cells t) (remaining x.slot ms)))
      (sym f)
      ∙ ap (λ (x : List ℕ). encode v ++ x)
      (encode_all_append (map as_selector (chosen o.slot ms)) (render p (cells t) (remaining o.slot ms)))
      ∙ ap₂ (λ (xs : List Cell) (x : List Presentation). encode v
      ++ (encode_all (map as_selector (chosen o.slot ms)) ++ encode_all (render p xs x))) (sym same) (remaining_drop o.slot ds i)
      ∙ sym (append_assoc (encode v) (encode_all (map as_selector (chosen o.slot ms)))
      (bytes_from p text ds end (i + decisions_used o.slot)))

-- ---- the length of these bytes

module _ (p : Policy) (t : List ℕ) (ds : List Presentation) where
  -- The length is the same under all decisions.
  render_size : size width (render p (cells t) ds) ≡ size width (format_cells p t)
  unfolding format_cells render
  render_size =
      let r = render p (cells t) ds in
      let s = render p (cells t) [] in
      let a = count-unsplit (selector_free_renew p (selector_free_cells t) ds) in
      let b = count-unsplit (selector_free_renew p (selector_free_cells t) []) in
      let c = ap (size width) (strip_render p t ds) in
      let d = ap (size width) (strip_render p t []) in
      omega (arith, bytes_parts r, bytes_parts s, renew_balances p (cells t) ds, renew_balances p (cells t) [])

-- For a slice within the limit, the capped length is the length of the written cells.
pub measured : (p : Policy) (raw : List ℕ) (ds : List Presentation) → length raw ≤ text_limit
    → capped (size width (format_cells p (chars raw))) ≡ length (encode_all (render p (cells (chars raw)) ds))
measured p raw ds h =
    let t = chars raw in
    let a = render_size p t ds in
    let b = render_bytes p t ds in
    capped-held (size width (format_cells p t)) (omega (arith, size-chars raw, valid_up_to_le raw)) ∙ sym a
    ∙ size-width (render p (cells t) ds)
