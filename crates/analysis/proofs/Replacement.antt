-- The renewal of cells: it has no count, keeps the characters, adds and removes selectors as counted, and changes nothing if there
-- is no count.
use mathlib.Core.Path.{◌≡◌, refl, ap, sym, ◌∙◌}
use mathlib.Core.Bool.{true, false}
use mathlib.Core.List.{List, [], ◌∷◌, ◌++◌, map}
use Prim.Native.Nat.{ℕ, ◌+◌}
use native.Mathlib.Omega.{arith}
use lib.ListN.{length}
use Rattle.emoji.specs.Presentation.{as_selector, is_selector}
use Rattle.emoji.specs.declared.presentation.Presentation.{Presentation}
use Rattle.policy.specs.declared.Policy.{Policy}
use Rattle.scanner.specs.Classes.{strip}
use Rattle.scanner.specs.declared.char_class.Class.{Class}
use Rattle.scanner.specs.declared.state.State.{State}
use Rattle.scanner.proofs.States.{inner}
use Rattle.scanner.proofs.Walk.{Walk, same_walk}
use Rattle.analysis.specs.Analysis.{chosen, count_cells, following, remaining, outcome_at, render, renew}
use Rattle.analysis.specs.Cells.{Cell, cells, leading, split}
use Rattle.analysis.specs.Counts.{◌⊕◌, adding, empty, removing, total}
use Rattle.analysis.specs.Rules.{Slot, bare, decided, fixed, outcome}
use Rattle.analysis.specs.declared.types.NonCanonicality.{NonCanonicality}
use Rattle.analysis.proofs.Counts.{empty-plus}
use Rattle.analysis.proofs.Cells.{
  SelectorFree,
  cell_and,
  chars_of,
  selector_free_cells,
  held_in,
  no_cell,
  split-char,
  split-unsplit,
  strip_selectors,
  strip-split,
  strip-unsplit,
}
use Rattle.analysis.proofs.RuleLaws.{balances, held, keeps, settles}

-- ---- cells

-- If no decision is left before a slot, none is left after it.
pub remaining-none : (o : Slot) → remaining o [] ≡ []
remaining-none bare = refl
remaining-none (fixed q) = refl
remaining-none (decided d) = refl

module _ (p : Policy) where
  pub following_renew : (xs : List Cell) (ds : List Presentation) → following (renew p xs ds) ≡ following xs
  unfolding following renew
  following_renew [] ds = refl
  following_renew (x ∷ xs) ds = refl

  pub chars_renew : (xs : List Cell) (ds : List Presentation) → chars_of (renew p xs ds) ≡ chars_of xs
  unfolding renew
  chars_renew [] ds = refl
  chars_renew (x ∷ xs) ds = ap (λ (l : List ℕ). x.char ∷ l) (chars_renew xs (remaining (outcome_at p x xs).slot ds))

  pub selector_free_renew : {xs : List Cell} → SelectorFree xs → (ds : List Presentation) → SelectorFree (renew p xs ds)
  unfolding renew
  selector_free_renew no_cell ds = no_cell
  selector_free_renew (cell_and {x = x} {xs = xs} e h) ds = cell_and e (selector_free_renew h (remaining (outcome_at p x xs).slot ds))

  -- Renewed cells have no count.
  pub count_renew : (xs : List Cell) (ds : List Presentation) → count_cells p (renew p xs ds) ≡ empty
  unfolding count_cells renew
  count_renew [] ds = refl
  count_renew (x ∷ xs) ds =
      let o = (outcome_at p x xs).slot in
      let r = renew p xs (remaining o ds) in
      ap (λ (k : Class). (outcome p x.char k (chosen o ds)).counts ⊕ count_cells p r) (following_renew xs (remaining o ds))
      ∙ ap (λ (n : NonCanonicality). n ⊕ count_cells p r) (settles p x.char (following xs) x.after ds)
      ∙ empty-plus (count_cells p r) ∙ count_renew xs (remaining o ds)

  keep-cell : (x : Cell) (xs : List Cell) (o : Slot) → chosen o [] ≡ x.after → renew p xs [] ≡ xs
      → record { char = x.char; after = chosen o [] } ∷ renew p xs (remaining o []) ≡ x ∷ xs
  keep-cell x xs o e h =
      ap (λ (ds : List Presentation). record { char = x.char; after = chosen o [] } ∷ renew p xs ds) (remaining-none o)
      ∙ (λ i. record { char = x.char; after = e i } ∷ h i)

  -- Cells without a count are equal to their renewal.
  pub renew_uncounted : (xs : List Cell) → total (count_cells p xs) ≡ 0 → renew p xs [] ≡ xs
  unfolding count_cells renew
  renew_uncounted [] e = refl
  renew_uncounted (x ∷ xs) e =
      let o = outcome_at p x xs in
      let n = o.counts in
      let m = count_cells p xs in
      let a : total n ≡ 0 = omega arith in
      let b : total m ≡ 0 = omega arith in
      keep-cell x xs o.slot (keeps p x.char (following xs) x.after a) (renew_uncounted xs b)

  -- Selectors are added and removed as counted.
  pub renew_balances : (xs : List Cell) (ds : List Presentation) → held_in (renew p xs ds) + removing (count_cells p xs)
      ≡ held_in xs + adding (count_cells p xs)
  unfolding count_cells renew
  renew_balances [] ds = refl
  renew_balances (x ∷ xs) ds =
      let o = outcome_at p x xs in
      let n = o.counts in
      let m = count_cells p xs in
      let a = (balances p x.char (following xs)).selectors x.after in
      let b = renew_balances xs (remaining o.slot ds) in
      omega (arith, chosen-held o.slot)
    where
      chosen-held : (o : Slot) → length (chosen o ds) ≡ held o
      chosen-held bare = refl
      chosen-held (fixed q) = refl
      chosen-held (decided d) = refl

  -- ---- characters of links or units

  pub split_render : (t : List ℕ) (ds : List Presentation) → split (render p (cells t) ds) ≡ ([], renew p (cells t) ds)
  unfolding render
  split_render t ds = split-unsplit (selector_free_renew (selector_free_cells t) ds)

  pub strip_render : (t : List ℕ) (ds : List Presentation) → strip (render p (cells t) ds) ≡ strip t
  unfolding render
  strip_render t ds = strip-unsplit (selector_free_renew (selector_free_cells t) ds) ∙ chars_renew (cells t) ds ∙ sym (strip-split t)

  pub render_no_count : (t : List ℕ) (ds : List Presentation) → count_cells p (cells (render p (cells t) ds)) ≡ empty
  render_no_count t ds = ap (λ (a : List Presentation × List Cell). count_cells p a.1) (split_render t ds) ∙ count_renew (cells t) ds

  -- ---- the first character and the characters after it

  -- The characters of the replacement after the first character of a links-only or emoji-headed item.
  unfoldable pub renewed : ℕ → List ℕ → List Presentation → List ℕ
  renewed c s ds =
      let o = (outcome p c (following (cells s)) (leading s)).slot in
      map as_selector (chosen o ds) ++ render p (cells s) (remaining o ds)

  pub render_cons : (c : ℕ) (s : List ℕ) (ds : List Presentation) → is_selector c ≡ false → render p (cells (c ∷ s)) ds ≡ c ∷ renewed c s ds
  unfolding renewed render renew
  render_cons c s ds e = ap (λ (a : List Presentation × List Cell). render p a.1 ds) (split-char c s e)

  pub strip_renewed : (c : ℕ) (s : List ℕ) (ds : List Presentation) → strip (renewed c s ds) ≡ strip s
  unfolding renewed
  strip_renewed c s ds =
      let o = (outcome p c (following (cells s)) (leading s)).slot in
      strip_selectors (chosen o ds) (render p (cells s) (remaining o ds)) ∙ strip_render s (remaining o ds)

  -- These characters lead to the same state of the scanner's automaton.
  pub renewed_walk : {a b : State} (c : ℕ) (s : List ℕ) (ds : List Presentation) → inner a ≡ true → Walk a s b → Walk a (renewed c s ds) b
  renewed_walk c s ds i w = same_walk s (renewed c s ds) i (sym (strip_renewed c s ds)) w
