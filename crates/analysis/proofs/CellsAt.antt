-- The leading selectors of a text are the run of selectors at its front, and the cells are those of the text after this run. So the
-- code can read a cell at an offset.
use mathlib.Core.Path.{◌≡◌, refl, ap, sym, ◌∙◌}
use mathlib.Core.Bool.{true, false}
use mathlib.Core.List.{List, [], ◌∷◌, map}
use Prim.Native.Nat.{ℕ, ◌+◌, ◌*◌, ◌≤◌}
use native.Mathlib.Omega.{arith}
use types.Run.{OneOf}
use denote.Enum.Declared.{tag_of}
use lib.ListN.{drop, length, length-drop, length-map}
use Rattle.utf8.specs.Rfc3629.{chars}
use Rattle.utf8.proofs.Texts.{valid_up_to_le}
use Rattle.emoji.specs.Presentation.{as_selector, is_selector}
use Rattle.emoji.specs.declared.presentation.Presentation.{Presentation}
use Rattle.policy.specs.declared.Policy.{Policy}
use Rattle.scanner.specs.Runs.{after_run, after_selectors, run, selectors_at}
use Rattle.scanner.specs.SelectorRun.{first_selector, selector_run}
use Rattle.scanner.specs.Spans.{size, width}
use Rattle.scanner.specs.declared.char_class.Class.{Class}
use Rattle.scanner.specs.declared.char_class.Class.TheVariants.{Selector as selector}
use Rattle.scanner.specs.declared.selectors.PresentationSelectors.{PresentationSelectors}
use Rattle.scanner.proofs.Bytes.{chars-from, size-chars}
use Rattle.scanner.specs.RunKinds.{is_selector_class}
use Rattle.scanner.proofs.ClassTests.{selector_test}
use Rattle.scanner.proofs.Peek.{Seen, seen_arm}
use Rattle.scanner.proofs.Rescan.{size_append}
use Rattle.scanner.proofs.Runs.{after_false, after_true, run-after, run_false, run_true}
use Rattle.scanner.proofs.SelectorChars.{from_selector_lem, selector_is}
use Rattle.scanner.proofs.SelectorRun.{first_is as first-in-run, selectors_size}
use Rattle.scanner.specs.contracts.char_class.Class.{the_type as the_class}
use Rattle.analysis.specs.Analysis.{following}
use Rattle.analysis.specs.CellView.{class_in_front}
use Rattle.analysis.specs.Cells.{Cell, cells, leading, split, unsplit}
use Rattle.analysis.specs.Rules.{Outcome, first_asked, outcome, run_with}
use Rattle.analysis.proofs.Cells.{by-chars, selector_free_cells, split-char, split_selector, split-unsplit, split-whole}
use Rattle.analysis.proofs.NumberRules.{by-numbers}

-- ---- the leading selectors and the text after them

selectors_are : (t : List ℕ) → selectors_at t ≡ map as_selector (leading t)
unfolding split run
selectors_are =
    by-chars (λ t. selectors_at t ≡ map as_selector (leading t)) refl
    (λ q t h. run_true is_selector (as_selector q) t (selector_is q) ∙ ap (λ (l : List ℕ). as_selector q ∷ l) h
    ∙ sym (ap (λ (a : List Presentation × List Cell). map as_selector a.0) (split_selector q t)))
    (λ c t e h. run_false is_selector c t e ∙ sym (ap (λ (a : List Presentation × List Cell). map as_selector a.0) (split-char c t e)))

after_are : (t : List ℕ) → after_selectors t ≡ unsplit (cells t)
unfolding split after_run
after_are =
    by-chars (λ t. after_selectors t ≡ unsplit (cells t)) refl
    (λ q t h. after_true is_selector (as_selector q) t (selector_is q) ∙ h
    ∙ sym (ap (λ (a : List Presentation × List Cell). unsplit a.1) (split_selector q t)))
    (λ c t e h. after_false is_selector c t e ∙ ap (λ (l : List ℕ). c ∷ l) (sym (split-whole t))
    ∙ sym (ap (λ (a : List Presentation × List Cell). unsplit a.1) (split-char c t e)))

-- After the leading selectors no selector leads, and the cells are the same.
pub split_after : (t : List ℕ) → split (after_selectors t) ≡ ([], cells t)
split_after t = ap split (after_are t) ∙ split-unsplit (selector_free_cells t)

count_is : (t : List ℕ) → length (selectors_at t) ≡ length (leading t)
count_is t = ap length (selectors_are t) ∙ length-map (leading t) as_selector

first_is : (t : List ℕ) → first_selector (selectors_at t) ≡ first_asked (leading t)
unfolding first_selector first_asked
first_is t = ap first_selector (selectors_are t) ∙ go (leading t)
  where
    go : (s : List Presentation) → first_selector (map as_selector s) ≡ first_asked s
    go [] = refl
    go (q ∷ s) = from_selector_lem q

-- The first leading selector is the presentation that the first character selects, if it is a selector.
pub first-leads : (t : List ℕ) → first_selector t ≡ first_asked (leading t)
first-leads t = first-in-run t ∙ first_is t

following_is : (t : List ℕ) → following (cells t) ≡ class_in_front (after_selectors t)
unfolding following class_in_front
following_is t = go (cells t) ∙ ap class_in_front (sym (after_are t))
  where
    go : (xs : List Cell) → following xs ≡ class_in_front (unsplit xs)
    go [] = refl
    go (x ∷ xs) = refl

-- ---- at an offset

-- The character is a selector in the arm of the class Selector, and none in the arm of all other classes.
module _ {text : List ℕ} {at v : ℕ} {k : Class} {next : ℕ} (h : Seen text at v k next) where
  pub is_selector_lem : k ≡ selector → is_selector v ≡ true
  is_selector_lem e = selector_test v ∙ ap is_selector_class (sym h.class ∙ e)

  pub not_selector : OneOf (1 ∷ 2 ∷ 3 ∷ 4 ∷ 5 ∷ 6 ∷ 7 ∷ []) (tag_of the_class k) → is_selector v ≡ false
  not_selector o =
      selector_test v ∙ ap is_selector_class (sym h.class) ∙ seen_arm h is_selector_class false (1 ∷ 2 ∷ 3 ∷ 4 ∷ 5 ∷ 6 ∷ 7 ∷ [])
      (tt, refl, refl, refl, refl, refl, refl, refl) o

module _ (text : List ℕ) (at : ℕ) where
  -- The end of the leading selectors: three bytes each.
  pub selectors_end : at + size width (selectors_at (chars (drop at text))) ≡ at + 3 * length (leading (chars (drop at text)))
  selectors_end = let t = chars (drop at text) in omega (arith, selectors_size t, count_is t)

  -- The text from that end on.
  pub after_at : chars (drop (at + 3 * length (leading (chars (drop at text)))) text) ≡ after_selectors (chars (drop at text))
  after_at =
      let t = chars (drop at text) in
      ap (λ (n : ℕ). chars (drop n text)) (sym selectors_end)
      ∙ chars-from text at (selectors_at t) (after_selectors t) (sym (run-after is_selector t))

  -- From that end on no selector leads, and the cells are the same.
  pub split_at : {end : ℕ} → end ≡ at + 3 * length (leading (chars (drop at text))) → split (chars (drop end text))
      ≡ ([], cells (chars (drop at text)))
  split_at e = ap (λ (n : ℕ). split (chars (drop n text))) e ∙ ap split after_at ∙ split_after (chars (drop at text))

  -- That end is within the text.
  pub selectors_room : at ≤ length text → at + 3 * length (leading (chars (drop at text))) ≤ length text
  selectors_room h =
      let s = drop at text in
      let t = chars s in
      let a = size_append width (selectors_at t) (after_selectors t) in
      let b = ap (size width) (run-after is_selector t) in
      omega (arith, a, b, size-chars s, valid_up_to_le s, length-drop at text, selectors_end)

  -- The run of selectors as the code reads it.
  module _ (r : PresentationSelectors) (e : r ≡ selector_run text at) where
    pub read_end : r.end ≡ at + 3 * length (leading (chars (drop at text)))
    unfolding selector_run
    read_end = ap (λ (x : PresentationSelectors). x.end) e ∙ selectors_end

    pub read_count : r.count ≡ length (leading (chars (drop at text)))
    unfolding selector_run
    read_count = ap (λ (x : PresentationSelectors). x.count) e ∙ count_is (chars (drop at text))

    read_first : r.first ≡ first_asked (leading (chars (drop at text)))
    unfolding selector_run
    read_first = ap (λ (x : PresentationSelectors). x.first) e ∙ first_is (chars (drop at text))

  -- The cell as the code reads it: by the run of selectors, the class of the character after it, and the result of the rules.
  pub cell-read : (p : Policy) (c : ℕ) (r : PresentationSelectors) (k : Class) (o : Outcome) → r ≡ selector_run text at
      → k ≡ class_in_front (chars (drop r.end text)) → o ≡ outcome p c k (run_with r.first r.count)
      → (o ≡ outcome p c (following (cells (chars (drop at text)))) (leading (chars (drop at text))))
      × (r.end ≡ at + 3 * length (leading (chars (drop at text))))
  cell-read p c r k o hr hk ho =
      let t = chars (drop at text) in
      let e = read_end r hr in
      let f = read_first r hr in
      let n = read_count r hr in
      let g : k ≡ following (cells t) = hk ∙ ap (λ (m : ℕ). class_in_front (chars (drop m text))) e ∙ ap class_in_front after_at
      ∙ sym (following_is t) in
      (ho ∙ (λ i. outcome p c (g i) (run_with (f i) (n i))) ∙ sym (by-numbers p c (following (cells t)) (leading t)), e)
