-- The change at a base with a variation entry and the selectors after it, and at a selector without such a base.
use Rattle.std.specs.Prelude.{Some, None, Option}
use mathlib.Core.Path.{◌≡◌, refl, ap, ap₂, sym, ◌∙◌}
use mathlib.Core.Bool.{Bool, true, false, ◌&&◌, not, true≢false}
use mathlib.Core.List.{List, [], ◌∷◌, ◌++◌, append_assoc, map}
use Prim.Native.Nat.{ℕ, zero, suc, ◌+◌, ◌*◌, ◌-◌, ◌<◌, ◌≤◌}
use native.Mathlib.Omega.{arith}
use lib.Dec.{eqb, leb}
use lib.ListN.{drop, length, take}
use borrow.Author.Tests.{eq-eqb, eqb-true, le-leb, leb-true, not-false}
use Rattle.base.proofs.Tests.{and_both, both_true, same_test}
use Rattle.utf8.specs.Rfc3629.{chars, encode, encode_all, valid_up_to_of}
use Rattle.utf8.proofs.Places.{Step}
use Rattle.emoji.specs.Presentation.{as_selector, from_selector, is_selector}
use Rattle.emoji.specs.Theorems.{NoIndexNoEntry, VariationEntriesAreEmoji}
use Rattle.emoji.specs.Unicode.{variation_sequence_index}
use Rattle.emoji.specs.declared.presentation.Presentation.{Presentation}
use Rattle.emoji.specs.declared.presentation.Presentation.TheVariants.{Emoji, Text}
use Rattle.emoji.proofs.Claims.{no_index_no_entry, variation_entries_are_emoji}
use Rattle.policy.specs.declared.Policy.{Policy}
use Rattle.scanner.specs.Runs.{after_selectors, selectors_at}
use Rattle.scanner.specs.Spans.{size, width}
use Rattle.scanner.specs.declared.char_class.Class.{Class}
use Rattle.scanner.proofs.Bytes.{size-chars, take_chars_lem}
use Rattle.scanner.proofs.Classes.{emoji_no_selector}
use Rattle.scanner.proofs.Rescan.{size_append}
use Rattle.scanner.proofs.Runs.{run-after}
use Rattle.scanner.proofs.SelectorChars.{other_value}
use Rattle.analysis.specs.Analysis.{chosen, count_cells, following, render}
use Rattle.analysis.specs.CellView.{class_in_front, format_cells, total_cells}
use Rattle.analysis.specs.Cells.{Cell, cells, leading, unsplit}
use Rattle.analysis.specs.Counts.{◌⊕◌, empty, total, unsanctioned}
use Rattle.analysis.specs.Rules.{first_asked, outcome, run_with, selector_number}
use Rattle.analysis.specs.declared.singleton.Outcome.{Outcome}
use Rattle.analysis.proofs.Cells.{split_selector, split-whole}
use Rattle.analysis.proofs.CellsAt.{after_at, selectors_end, selectors_room, split_after}
use Rattle.analysis.proofs.RuleLaws.{keeps, settles}
use Rattle.analysis.proofs.Rules.{has_entry}
use Rattle.text_pass.specs.Changes.{
  Advances,
  BaseChange,
  ChangeAt,
  IsNextChange,
  SameRules,
  UnchangedBetween,
  formatted_from,
  outcome_from,
  total_from,
}
use Rattle.text_pass.specs.declared.Change.{Change}
use Rattle.text_pass.proofs.PlainText.{StaysAlone}
use Rattle.text_pass.proofs.Kept.{outcome-read}
use Rattle.text_pass.proofs.Staying.{between, step_bytes_lem, step-formatted, step-total}

-- ---- whether selectors change

number-tells : (a b : Option Presentation) → selector_number a ≡ selector_number b → a ≡ b
number-tells None None e = refl
number-tells None (Some Text) e = absurd (omega arith)
number-tells None (Some Emoji) e = absurd (omega arith)
number-tells (Some Text) None e = absurd (omega arith)
number-tells (Some Text) (Some Text) e = refl
number-tells (Some Text) (Some Emoji) e = absurd (omega arith)
number-tells (Some Emoji) None e = absurd (omega arith)
number-tells (Some Emoji) (Some Text) e = absurd (omega arith)
number-tells (Some Emoji) (Some Emoji) e = refl

-- A run of at most one selector is determined by its first selector.
one_at_most : (s : List Presentation) → length s ≤ 1 → run_with (first_asked s) 1 ≡ s
unfolding run_with first_asked
one_at_most [] h = refl
one_at_most (q ∷ []) h = refl
one_at_most (q ∷ r ∷ s) h = absurd (omega arith)

first_is : (a : Option Presentation) → first_asked (run_with a 1) ≡ a
unfolding run_with first_asked
first_is None = refl
first_is (Some q) = refl

few_are : (a : Option Presentation) → length (run_with a 1) ≤ 1
unfolding run_with
few_are None = omega arith
few_are (Some q) = omega arith

-- The rules count nothing exactly if the selectors are just the selector that stays.
pub no_change : (p : Policy) (c : ℕ) (k : Class) (s : List Presentation) (a : Option Presentation) → run_with a 1
    ≡ chosen (outcome p c k s).slot []
    → (eqb (selector_number (first_asked s)) (selector_number a) && leb (3 * length s) 3) ≡ eqb (total (outcome p c k s).counts) 0
no_change p c k s a h = same_test _ _ quiet loud
  where
    quiet : (eqb (selector_number (first_asked s)) (selector_number a) && leb (3 * length s) 3) ≡ true
        → eqb (total (outcome p c k s).counts) 0 ≡ true
    quiet t =
        let b = both_true (eqb (selector_number (first_asked s)) (selector_number a)) (leb (3 * length s) 3) t in
        let f : first_asked s ≡ a = number-tells (first_asked s) a (eqb-true _ _ b.0) in
        let l : length s ≤ 1 = omega (arith, leb-true (3 * length s) 3 b.1) in
        let e : chosen (outcome p c k s).slot [] ≡ s = sym h ∙ ap (λ (x : Option Presentation). run_with x 1) (sym f) ∙ one_at_most s l in
        let z : (outcome p c k s).counts ≡ empty = ap (λ (x : List Presentation). (outcome p c k x).counts) (sym e) ∙ settles p c k s [] in
        eq-eqb _ 0 (ap total z)

    loud : eqb (total (outcome p c k s).counts) 0 ≡ true
        → (eqb (selector_number (first_asked s)) (selector_number a) && leb (3 * length s) 3)
        ≡ true
    loud t =
        let e : run_with a 1 ≡ s = h ∙ keeps p c k s (eqb-true _ 0 t) in
        let f : first_asked s ≡ a = ap first_asked (sym e) ∙ first_is a in
        and_both _ _ (eq-eqb _ _ (ap selector_number f)) (le-leb (3 * length s) 3 (omega (arith, ap length e, few_are a)))

-- ---- the selectors after a base

module _ (text : List ℕ) (at : ℕ) where
  abbrev End : ℕ
  End = at + 3 * length (leading (chars (drop at text)))

  -- The characters after the selectors.
  after-cells : chars (drop End text) ≡ after_selectors (chars (drop at text))
  after-cells = after_at text at

  pub selectors_formatted : (p : Policy) → formatted_from p text at ≡ formatted_from p text End
  unfolding format_cells
  selectors_formatted p =
      sym (ap (λ (t : List ℕ). encode_all (format_cells p t)) after-cells
      ∙ ap (λ (a : List Presentation × List Cell). encode_all (render p a.1 [])) (split_after (chars (drop at text))))

  pub selectors_total : (p : Policy) → total_from p text at ≡ length (leading (chars (drop at text))) + total_from p text End
  unfolding total_cells
  selectors_total p =
      let e = ap (λ (t : List ℕ). total (total_cells p t)) after-cells
      ∙ ap (λ (a : List Presentation × List Cell). total (unsanctioned (length a.0) ⊕ count_cells p a.1))
      (split_after (chars (drop at text))) in
      omega (arith, e)

  pub selectors_valid : valid_up_to_of (drop at text) ≡ 3 * length (leading (chars (drop at text))) + valid_up_to_of (drop End text)
  selectors_valid =
      let t = chars (drop at text) in
      let a = size_append width (selectors_at t) (after_selectors t) in
      let b = ap (size width) (run-after is_selector t) in
      omega (arith, a, b, selectors_end text at, ap (size width) after-cells, size-chars (drop at text), size-chars (drop End text))

  three_each : (s : List Presentation) → length (encode_all (map as_selector s)) ≡ 3 * length s
  unfolding encode_all encode as_selector
  three_each [] = refl
  three_each (Text ∷ s) = omega (arith, three_each s)
  three_each (Emoji ∷ s) = omega (arith, three_each s)

  -- The bytes of the selectors.
  pub selectors_bytes : take (End - at) (drop at text) ≡ encode_all (map as_selector (leading (chars (drop at text))))
  selectors_bytes =
      let t = chars (drop at text) in
      let n : End - at ≡ length (encode_all (map as_selector (leading t))) = omega (arith, three_each (leading t)) in
      ap (λ (n : ℕ). take n (drop at text)) n ∙ take_chars_lem (drop at text) (map as_selector (leading t)) (unsplit (cells t))
      (sym (split-whole t))

-- ---- a base as the code reads it

pub base_read : (p : Policy) (text : List ℕ) (base at : ℕ) (first : Option Presentation) (end : ℕ) (k : Class) (a : Option Presentation)
    (m : Bool)
    → first ≡ first_asked (leading (chars (drop at text))) → end ≡ at + 3 * length (leading (chars (drop at text)))
    → SameRules k (class_in_front (chars (drop end text)))
    → ((n : ℕ) → run_with a 1 ≡ chosen (outcome p base k (run_with first n)).slot []) → m
    ≡ not (eqb (selector_number first) (selector_number a) && leb (end - at) 3)
    → BaseChange p text base at (record { start = at; selector = a; end = end; present = m })
base_read p text base at first end k a m f e h s q =
    let t = chars (drop at text) in
    let o = outcome-read p text base at first end k f e h in
    let u : run_with a 1 ≡ chosen (outcome_from p text base at).slot [] = s (length (leading t))
    ∙ ap (λ (x : Outcome). chosen x.slot []) o in
    let w : end - at ≡ 3 * length (leading t) = omega arith in
    record {
      start_is = refl;
      end_is = e;
      selector_is = u;
      present_is =
          q ∙ ap₂ (λ (x : Option Presentation) (n : ℕ). not (eqb (selector_number x) (selector_number a) && leb n 3)) f w
          ∙ ap not (no_change p base (following (cells t)) (leading t) a u);
    }

-- ---- the change at a base

module _ (p : Policy) {text : List ℕ} {at v w : ℕ} (h : Step text at v w) (e : is_selector v ≡ false) (c : Change)
    (b : BaseChange p text v (at + w) c) where
  base_total : total_from p text at ≡ total (outcome_from p text v (at + w)).counts + total_from p text c.end
  base_total = omega (arith, step-total p h e, selectors_total text (at + w) p, ap (total_from p text) b.end_is)

  base_valid : valid_up_to_of (drop at text) ≡ (c.end - at) + valid_up_to_of (drop c.end text)
  base_valid =
      let x = b.end_is in
      omega (arith, h.valid_up_to_on, selectors_valid text (at + w), ap (λ (n : ℕ). valid_up_to_of (drop n text)) b.end_is)

  base_formatted : formatted_from p text at ≡ encode v
      ++ (encode_all (map as_selector (chosen (outcome_from p text v (at + w)).slot [])) ++ formatted_from p text c.end)
  base_formatted =
      step-formatted p h e
      ∙ ap (λ (l : List ℕ). encode v ++ (encode_all (map as_selector (chosen (outcome_from p text v (at + w)).slot [])) ++ l))
      (selectors_formatted text (at + w) p ∙ ap (formatted_from p text) (sym b.end_is))

  base_advances : Advances text at c.end
  base_advances = record {
    on = omega (arith, b.end_is);
    inside = λ _. omega (arith, b.end_is, selectors_room text (at + w) h.room);
    valid = base_valid;
  }

  pub change_at_base : ChangeAt p text at c
  change_at_base = (changed, stays)
    where
      counted : c.present ≡ true → 1 ≤ total (outcome_from p text v (at + w)).counts
      counted m = go (total (outcome_from p text v (at + w)).counts) refl
        where
          go : (n : ℕ) → total (outcome_from p text v (at + w)).counts ≡ n → 1 ≤ n
          go zero z = absurd (true≢false (sym m ∙ b.present_is ∙ ap not (eq-eqb _ 0 z)))
          go (suc n) z = omega arith

      changed : c.present ≡ true → IsNextChange p text at c
      changed m = record {
        advances = base_advances;
        on = omega (arith, b.start_is);
        after = omega (arith, b.start_is, b.end_is);
        moves = omega (arith, b.end_is, h.some);
        formatted =
            base_formatted
            ∙ ap₂ (λ (x y : List ℕ). x ++ (y ++ formatted_from p text c.end))
            (sym (ap (λ (n : ℕ). take (n - at) (drop at text)) b.start_is ∙ step_bytes_lem h))
            (ap (λ (s : List Presentation). encode_all (map as_selector s)) (sym b.selector_is));
        counted = omega (arith, base_total, counted m);
      }

      stays : c.present ≡ false → UnchangedBetween p text at c.end × (at < c.end)
      stays m =
          let t = chars (drop (at + w) text) in
          let z : total (outcome_from p text v (at + w)).counts ≡ 0 = eqb-true _ 0 (not-false _ (sym b.present_is ∙ m)) in
          let s : chosen (outcome_from p text v (at + w)).slot [] ≡ leading t = keeps p v (following (cells t)) (leading t) z in
          let a : take (c.end - at) (drop at text) ≡ encode v ++ encode_all (map as_selector (leading t)) =
          between text at (at + w) c.end (omega arith) (omega (arith, b.end_is))
          ∙ ap₂ (λ (x y : List ℕ). x ++ y) (step_bytes_lem h)
          (ap (λ (n : ℕ). take (n - (at + w)) (drop (at + w) text)) b.end_is ∙ selectors_bytes text (at + w)) in (
            record {
              advances = base_advances;
              formatted =
                  base_formatted ∙ ap (λ (x : List Presentation). encode v
                  ++ (encode_all (map as_selector x) ++ formatted_from p text c.end)) s
                  ∙ sym (append_assoc (encode v) (encode_all (map as_selector (leading t))) (formatted_from p text c.end))
                  ∙ ap (λ (x : List ℕ). x ++ formatted_from p text c.end) (sym a);
              counted = omega (arith, base_total, z);
            },
            omega (arith, b.end_is, h.some),
          )

-- ---- a selector

-- Formatting removes the selector and all selectors after it.
pub change_at_selector : (p : Policy) {text : List ℕ} {at w : ℕ} (q : Presentation) → Step text at (as_selector q) w → (end : ℕ) → end
    ≡ End text (at + w)
    → ChangeAt p text at (record { start = at; selector = None; end = end; present = true })
unfolding format_cells total_cells run_with encode_all
change_at_selector p {text} {at} {w} q h end e =
    let s = split_selector q (chars (drop (at + w) text)) in
    let z : at - at ≡ 0 = omega arith in
    let n : total_from p text at ≡ suc (total_from p text (at + w)) =
    ap (λ (l : List ℕ). total (total_cells p l)) h.chars_on
    ∙ ap (λ (a : List Presentation × List Cell). total (unsanctioned (length a.0) ⊕ count_cells p a.1)) s ∙ omega arith in (
      λ _. record {
        advances = record {
          on = omega arith;
          inside = λ _. omega (arith, selectors_room text (at + w) h.room);
          valid = omega (arith, h.valid_up_to_on, selectors_valid text (at + w), ap (λ (n : ℕ). valid_up_to_of (drop n text)) e);
        };
        on = omega arith;
        after = omega arith;
        moves = omega (arith, h.some);
        formatted =
            ap (λ (l : List ℕ). encode_all (format_cells p l)) h.chars_on
            ∙ ap (λ (a : List Presentation × List Cell). encode_all (render p a.1 [])) s
            ∙ selectors_formatted text (at + w) p ∙ ap (formatted_from p text) (sym e)
            ∙ ap (λ (n : ℕ). take n (drop at text) ++ formatted_from p text end) (sym z);
        counted = omega (arith, n, selectors_total text (at + w) p, ap (total_from p text) e);
      },
      λ f. absurd (true≢false f),
    )

-- ---- a character with a variation entry is no selector

pub entry_no_selector : (c i : ℕ) → variation_sequence_index c ≡ Some i → is_selector c ≡ false
unfolding VariationEntriesAreEmoji
entry_no_selector c i e = emoji_no_selector c (variation_entries_are_emoji c (has_entry c i e))

pub plain_char : (c : ℕ) → variation_sequence_index c ≡ None → from_selector c ≡ None → StaysAlone c
unfolding NoIndexNoEntry
plain_char c e f = record { no_entry = (no_index_no_entry c).0 e; no_selector = other_value c f }
