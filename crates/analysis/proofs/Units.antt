-- The cells of a link and of a unit: cells without a variation entry are counted by rule 1, and the class after a base and its
-- selectors is that of its first modification.
use mathlib.Core.Path.{◌≡◌, refl, ap, ap₂, sym, ◌∙◌, subst}
use mathlib.Core.Bool.{Bool, true, false, cond, true≢false}
use mathlib.Core.List.{List, [], ◌∷◌, ◌++◌, map}
use Prim.Native.Nat.{ℕ, suc}
use lib.Dec.{eqb}
use lib.ListN.{length}
use borrow.Author.Tests.{eq-eqb}
use Rattle.emoji.specs.Presentation.{as_selector, is_selector}
use Rattle.emoji.specs.Unicode.{has_variation_sequence}
use Rattle.emoji.specs.declared.presentation.Presentation.{Presentation}
use Rattle.policy.specs.declared.Policy.{Policy}
use Rattle.scanner.specs.declared.char_class.Class.{Class}
use Rattle.scanner.specs.declared.char_class.Class.TheVariants.{Emoji as emoji, Link as link}
use Rattle.scanner.specs.Grammar.{S, no_selectors, selector_and}
use Rattle.scanner.proofs.Classes.{
  HasClass,
  class_is,
  emoji_no_link,
  emoji_no_selector,
  entry_class,
  is_keycap,
  is_link,
  is_modifier,
  is_tag_lem,
  modifier_emoji,
  tag_no_link,
  tag_no_selector,
}
use Rattle.scanner.proofs.Modifications.{ModRun, run_end, run_keycap, run_modifier, run_selector, run_tag}
use Rattle.scanner.proofs.Runs.{Stops, at_char, at_end}
use Rattle.scanner.proofs.SelectorChars.{CharIs, a_selector, char_is, no_selector}
use Rattle.analysis.specs.Analysis.{
  Choice,
  add_choice,
  choices_of_cells,
  chosen,
  count_cells,
  following,
  remaining,
  outcome_at,
  render,
  renew,
  up_to_link,
}
use Rattle.analysis.specs.Cells.{Cell, cells, leading, split}
use Rattle.analysis.specs.Counts.{◌⊕◌, unsanctioned}
use Rattle.analysis.specs.Rules.{Outcome, by_keycap, by_modifier, by_tags, outcome, rule1}
use Rattle.analysis.specs.declared.types.NonCanonicality.{NonCanonicality}
use Rattle.analysis.proofs.Counts.{empty-plus, plus_assoc}
use Rattle.analysis.proofs.Cells.{chars_of, held_in, split_append, split-char, split_selector}
use Rattle.analysis.proofs.Rules.{outcome_no_entry, outcome_unmodified}

-- ---- cells of characters

pub cells_selector : (c : ℕ) (t : List ℕ) → is_selector c ≡ true → (cells (c ∷ t) ≡ cells t)
    × (length (leading (c ∷ t)) ≡ suc (length (leading t)))
cells_selector c t e = go (char_is c)
  where
    go : CharIs c → (cells (c ∷ t) ≡ cells t) × (length (leading (c ∷ t)) ≡ suc (length (leading t)))
    go (a_selector q f) =
        subst (λ (x : ℕ). (cells (x ∷ t) ≡ cells t) × (length (leading (x ∷ t)) ≡ suc (length (leading t)))) (sym f)
        (subst (λ (a : List Presentation × List Cell). (a.1 ≡ cells t) × (length a.0 ≡ suc (length (leading t))))
        (sym (split_selector q t)) (refl, refl))
    go (no_selector f) = absurd (true≢false (sym e ∙ f))

pub split_S : {s : List ℕ} → S s → (cells s ≡ []) × (length (leading s) ≡ length s)
unfolding split
split_S no_selectors = (refl, refl)
split_S (selector_and {c = c} {s = s} e h) =
    let i = split_S h in
    let j = cells_selector c s e in
    (j.0 ∙ i.0, j.1 ∙ ap suc i.1)

-- A character that is no selector, its selectors, and characters that do not begin with a selector.
pub split_base : {s : List ℕ} (c : ℕ) (t : List ℕ) → is_selector c ≡ false → S s → leading t ≡ [] → split (c ∷ (s ++ t))
    ≡ ([], record { char = c; after = leading s } ∷ cells t)
split_base {s} c t e h f =
    split-char c (s ++ t) e
    ∙ ap (λ (a : List Presentation × List Cell). ([], record { char = c; after = a.0 } ∷ a.1)) (split_append s t f)
    ∙ ap (λ (l : List Cell). ([], record { char = c; after = leading s } ∷ (l ++ cells t))) (split_S h).0

pub leading-stops : {t : List ℕ} → Stops is_selector t → leading t ≡ []
unfolding split
leading-stops at_end = refl
leading-stops (at_char {c = c} {s = s} e) = ap (λ (a : List Presentation × List Cell). a.0) (split-char c s e)

-- ---- cells of modifications

-- Cells whose characters have no variation entry and are no links.
pub data Entryless : List Cell → Type 0 where
  no_base : Entryless []
  without_entry : {x : Cell} {xs : List Cell} → has_variation_sequence x.char ≡ false → eqb x.char 0x200D ≡ false → Entryless xs
      → Entryless (x ∷ xs)

pub no_entry : {c : ℕ} {k : Class} → HasClass c k → (k ≡ emoji → ⊥) → has_variation_sequence c ≡ false
no_entry {c} {k} h f = go (has_variation_sequence c) refl
  where
    go : (b : Bool) → has_variation_sequence c ≡ b → b ≡ false
    go true e = absurd (f (sym (class_is h) ∙ entry_class c e))
    go false e = refl

modification_cell : {c : ℕ} {k : Class} (t : List ℕ) → HasClass c k → is_selector c ≡ false → eqb c 0x200D ≡ false → (k ≡ emoji → ⊥)
    → Entryless (cells t) → Entryless (cells (c ∷ t))
modification_cell {c} {k} t h e g f i =
    subst (λ (a : List Presentation × List Cell). Entryless a.1) (sym (split-char c t e)) (without_entry (no_entry h f) g i)

pub modification_cells : {t : List ℕ} → ModRun t → Entryless (cells t)
unfolding split is_selector
modification_cells run_end = no_base
modification_cells (run_selector {c = c} {t = t} e h) = subst Entryless (sym (cells_selector c t e).0) (modification_cells h)
modification_cells (run_modifier {c = c} {t = t} e h) =
    let m = modifier_emoji c e in
    modification_cell t (is_modifier e) (emoji_no_selector c m) (emoji_no_link c m) (λ z. true≢false (cc)) (modification_cells h)
modification_cells (run_keycap {t = t} h) = modification_cell {c = 0x20E3} t (is_keycap refl) refl refl (λ z. true≢false (cc))
    (modification_cells h)
modification_cells (run_tag {c = c} {t = t} e h) = modification_cell t (is_tag_lem e) (tag_no_selector c e) (tag_no_link c e)
    (λ z. true≢false (cc)) (modification_cells h)

-- ---- after a unit: the end, or a link

pub data Ends : List Cell → Type 0 where
  ends_none : Ends []
  ends_link : {x : Cell} {xs : List Cell} → x.char ≡ 0x200D → Ends (x ∷ xs)

pub up_to_link_lem : {ms ys : List Cell} → Entryless ms → Ends ys → up_to_link (ms ++ ys) ≡ ms
unfolding up_to_link
up_to_link_lem no_base ends_none = refl
up_to_link_lem no_base (ends_link {x = x} {xs = xs} e) = ap (λ (b : Bool). cond b [] (x ∷ up_to_link xs)) (eq-eqb x.char 0x200D e)
up_to_link_lem {ys = ys} (without_entry {x = x} {xs = xs} e f h) i =
    ap (λ (b : Bool). cond b [] (x ∷ up_to_link (xs ++ ys))) f ∙ ap (λ (l : List Cell). x ∷ l) (up_to_link_lem h i)

module _ (p : Policy) where
  -- ---- a cell without an entry

  pub outcome_bare : (x : Cell) (xs : List Cell) → has_variation_sequence x.char ≡ false → outcome_at p x xs ≡ rule1 x.after
  outcome_bare x xs e = outcome_no_entry p x.char (following xs) x.after e

  pub cell-count : (x : Cell) (xs : List Cell) → has_variation_sequence x.char ≡ false → count_cells p (x ∷ xs)
      ≡ unsanctioned (length x.after) ⊕ count_cells p xs
  unfolding count_cells rule1
  cell-count x xs e = ap (λ (o : Outcome). o.counts ⊕ count_cells p xs) (outcome_bare x xs e)

  pub cell_render : (x : Cell) (xs : List Cell) (ds : List Presentation) → has_variation_sequence x.char ≡ false → render p (x ∷ xs) ds
      ≡ x.char ∷ render p xs ds
  unfolding render renew rule1
  cell_render x xs ds e = ap (λ (o : Outcome). x.char ∷ (map as_selector (chosen o.slot ds) ++ render p xs (remaining o.slot ds)))
      (outcome_bare x xs e)

  pub cell_choices : (x : Cell) (xs : List Cell) → has_variation_sequence x.char ≡ false
      → choices_of_cells p (x ∷ xs) ≡ choices_of_cells p xs
  unfolding choices_of_cells rule1
  cell_choices x xs e = ap (λ (o : Outcome). add_choice p o.slot (x ∷ up_to_link xs) (choices_of_cells p xs)) (outcome_bare x xs e)

  -- ---- cells of modifications, before other cells

  pub run-count : {ms : List Cell} (ys : List Cell) → Entryless ms → count_cells p (ms ++ ys) ≡ unsanctioned (held_in ms) ⊕ count_cells p ys
  run-count ys no_base = sym (empty-plus (count_cells p ys))
  run-count ys (without_entry {x = x} {xs = xs} e f h) =
      cell-count x (xs ++ ys) e ∙ ap (λ (n : NonCanonicality). unsanctioned (length x.after) ⊕ n) (run-count ys h)
      ∙ sym (plus_assoc (unsanctioned (length x.after)) (unsanctioned (held_in xs)) (count_cells p ys))

  pub run_render : {ms : List Cell} (ys : List Cell) (ds : List Presentation) → Entryless ms → render p (ms ++ ys) ds ≡ chars_of ms
      ++ render p ys ds
  run_render ys ds no_base = refl
  run_render ys ds (without_entry {x = x} {xs = xs} e f h) = cell_render x (xs ++ ys) ds e
      ∙ ap (λ (l : List ℕ). x.char ∷ l) (run_render ys ds h)

  pub run_alone : {ms : List Cell} (ds : List Presentation) → Entryless ms → render p ms ds ≡ chars_of ms
  unfolding render renew
  run_alone ds no_base = refl
  run_alone ds (without_entry {x = x} {xs = xs} e f h) = cell_render x xs ds e ∙ ap (λ (l : List ℕ). x.char ∷ l) (run_alone ds h)

  pub run_choices : {ms : List Cell} (ys : List Cell) → Entryless ms → choices_of_cells p (ms ++ ys) ≡ choices_of_cells p ys
  run_choices ys no_base = refl
  run_choices ys (without_entry {x = x} {xs = xs} e f h) = cell_choices x (xs ++ ys) e ∙ run_choices ys h

  -- ---- a base and its modifications, before a link or the end

  pub unit_outcome : {ms ys : List Cell} (x : Cell) → Entryless ms → Ends ys → outcome_at p x (ms ++ ys) ≡ outcome_at p x ms
  unfolding following by_modifier by_tags by_keycap
  unit_outcome x no_base ends_none = refl
  unit_outcome x no_base (ends_link e) =
      ap (λ (k : Class). outcome p x.char k x.after) (class_is (is_link e))
      ∙ outcome_unmodified p x.char link x.after refl refl refl
  unit_outcome x (without_entry e f h) i = refl

  pub unit_count : {ms ys : List Cell} (x : Cell) → Entryless ms → Ends ys → count_cells p (x ∷ (ms ++ ys))
      ≡ (outcome_at p x ms).counts ⊕ unsanctioned (held_in ms) ⊕ count_cells p ys
  unfolding count_cells
  unit_count {ms} {ys} x h i =
      ap₂ (λ (o : Outcome) (n : NonCanonicality). o.counts ⊕ n) (unit_outcome x h i) (run-count ys h)
      ∙ sym (plus_assoc (outcome_at p x ms).counts (unsanctioned (held_in ms)) (count_cells p ys))

  pub unit_render : {ms ys : List Cell} (x : Cell) (ds : List Presentation) → Entryless ms → Ends ys
      → let o = (outcome_at p x ms).slot in render p (x ∷ (ms ++ ys)) ds
      ≡ x.char ∷ (map as_selector (chosen o ds) ++ (chars_of ms ++ render p ys (remaining o ds)))
  unfolding render renew
  unit_render {ms} {ys} x ds h i =
      let o = (outcome_at p x ms).slot in
      ap (λ (a : Outcome). x.char ∷ (map as_selector (chosen a.slot ds) ++ render p (ms ++ ys) (remaining a.slot ds)))
      (unit_outcome x h i)
      ∙ ap (λ (l : List ℕ). x.char ∷ (map as_selector (chosen o ds) ++ l)) (run_render ys (remaining o ds) h)

  -- A unit with no text after it.
  pub unit_alone : {ms : List Cell} (x : Cell) (ds : List Presentation) → Entryless ms → render p (x ∷ ms) ds
      ≡ x.char ∷ (map as_selector (chosen (outcome_at p x ms).slot ds) ++ chars_of ms)
  unfolding render renew
  unit_alone {ms} x ds h =
      let o = (outcome_at p x ms).slot in
      ap (λ (l : List ℕ). x.char ∷ (map as_selector (chosen o ds) ++ l)) (run_alone (remaining o ds) h)

  pub unit_choices : {ms ys : List Cell} (x : Cell) → Entryless ms → Ends ys → choices_of_cells p (x ∷ (ms ++ ys))
      ≡ add_choice p (outcome_at p x ms).slot (x ∷ ms) (choices_of_cells p ys)
  unfolding choices_of_cells
  unit_choices {ms} {ys} x h i =
      let o = (outcome_at p x ms).slot in
      ap (λ (a : Outcome). add_choice p a.slot (x ∷ up_to_link (ms ++ ys)) (choices_of_cells p (ms ++ ys))) (unit_outcome x h i)
      ∙ ap₂ (λ (u : List Cell) (l : List Choice). add_choice p o (x ∷ u) l) (up_to_link_lem h i) (run_choices ys h)
