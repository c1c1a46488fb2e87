-- The totals and the length of a slice, cell by cell: the laws that the loop of `measure_cells` uses.
use mathlib.Core.Path.{◌≡◌, refl, ap, sym, ◌∙◌, subst}
use mathlib.Core.Logic.{⊎_elim}
use mathlib.Core.Bool.{Bool, true, false}
use mathlib.Core.List.{List, [], ◌∷◌, map}
use Prim.Native.Nat.{ℕ, suc, ◌+◌, ◌*◌, ◌-◌, ◌/◌, ◌≤◌}
use native.Mathlib.Nat.{add-zero}
use native.Mathlib.Omega.{arith}
use lib.ListN.{drop, length}
use Rattle.base.specs.Sums.{capped, most}
use Rattle.base.proofs.Sums.{capped-held, capped-more}
use Rattle.base.proofs.Tests.{le_or_lt}
use Rattle.utf8.specs.Rfc3629.{chars}
use Rattle.utf8.proofs.Places.{Step, Stop}
use Rattle.emoji.specs.Presentation.{as_selector, is_selector}
use Rattle.emoji.specs.Unicode.{has_variation_sequence}
use Rattle.emoji.specs.declared.presentation.Presentation.{Presentation}
use Rattle.emoji.specs.declared.presentation.Presentation.TheVariants.{Emoji, Text}
use Rattle.policy.specs.declared.Policy.{Policy}
use Rattle.policy.specs.declared.SingletonRule.{SingletonRule}
use Rattle.policy.specs.declared.SingletonRule.TheVariants.{BareToEmoji, BareToText, EmojiToBare, TextToBare}
use Rattle.scanner.specs.SelectorRun.{selector_run}
use Rattle.scanner.specs.Spans.{size, width}
use Rattle.scanner.specs.declared.char_class.Class.{Class}
use Rattle.scanner.specs.declared.selectors.PresentationSelectors.{PresentationSelectors}
use Rattle.scanner.proofs.Rescan.{size_append}
use Rattle.scanner.proofs.SelectorChars.{width_selector}
use Rattle.analysis.specs.Analysis.{chosen, count_cells, following, remaining, render, renew}
use Rattle.analysis.specs.Helpers.{slot_length}
use Rattle.analysis.specs.CellView.{format_cells, total_cells}
use Rattle.analysis.specs.Cells.{Cell, cells, leading, split}
use Rattle.analysis.specs.Counts.{◌⊕◌, capped_sum, total, unsanctioned}
use Rattle.analysis.specs.Rules.{
  Outcome,
  Slot,
  bare,
  by_first,
  decided,
  fixed,
  is_bare_side,
  outcome,
  rule1,
  rule2,
  rule3,
  rule4,
  rule5,
  rule6,
  text_first,
  without_selector,
}
use Rattle.analysis.specs.declared.types.NonCanonicality.{NonCanonicality}
use Rattle.analysis.proofs.Cells.{front-char, split-char}
use Rattle.analysis.proofs.CellsAt.{read_count, read_end, selectors_room, split_at}
use Rattle.analysis.proofs.Counts.{empty-plus, plus_assoc, plus-empty}
use Rattle.analysis.proofs.Replacement.{remaining-none, render_cons, renewed}
use Rattle.analysis.proofs.Rules.{by_rules, outcome_no_entry, rule23}
use Rattle.analysis.proofs.Sums.{whole_sum}

-- ---- the counts of a cell add up to at most one more than its selectors

abbrev Few : (List Presentation → Outcome) → Type 0
Few f = (s : List Presentation) → total (f s).counts ≤ suc (length s)

few_1 : Few rule1
unfolding rule1
few_1 s = omega arith

few_23 : (b : Bool) → Few (rule23 b)
unfolding rule2 rule3 by_first text_first
few_23 b [] = omega arith
few_23 b (Text ∷ s) = omega arith
few_23 true (Emoji ∷ s) = omega arith
few_23 false (Emoji ∷ s) = omega arith

few_4 : Few rule4
unfolding rule4 by_first
few_4 [] = omega arith
few_4 (Text ∷ s) = omega arith
few_4 (Emoji ∷ s) = omega arith

few_5 : Few rule5
unfolding rule5 by_first
few_5 [] = omega arith
few_5 (Text ∷ s) = omega arith
few_5 (Emoji ∷ s) = omega arith

few_6 : (r : SingletonRule) → Few (rule6 r)
unfolding rule6 without_selector is_bare_side
few_6 TextToBare [] = omega arith
few_6 EmojiToBare [] = omega arith
few_6 BareToText [] = omega arith
few_6 BareToEmoji [] = omega arith
few_6 TextToBare (Text ∷ s) = omega arith
few_6 TextToBare (Emoji ∷ s) = omega arith
few_6 EmojiToBare (Text ∷ s) = omega arith
few_6 EmojiToBare (Emoji ∷ s) = omega arith
few_6 BareToText (q ∷ s) = omega arith
few_6 BareToEmoji (q ∷ s) = omega arith

pub few : (p : Policy) (c : ℕ) (k : Class) → Few (outcome p c k)
few = by_rules Few few_1 few_23 few_4 few_5 few_6

-- ---- a length that is capped at each addition is the sum capped once

pub capped-on : (m n : ℕ) → capped (capped m + n) ≡ capped (m + n)
capped-on m n =
    ⊎_elim (λ h. ap (λ (x : ℕ). capped (x + n)) (capped-held m h))
    (λ h. ap (λ (x : ℕ). capped (x + n)) (capped-more m h) ∙ over (most + n) (omega arith) ∙ sym (over (m + n) (omega arith)))
    (le_or_lt m most)
  where
    over : (x : ℕ) → most ≤ x → capped x ≡ most
    over x l = ⊎_elim (λ h. capped-held x h ∙ omega arith) (λ h. capped-more x h) (le_or_lt x most)

capped-most : (n : ℕ) → capped n ≤ most
capped-most n = ⊎_elim (λ h. omega (arith, capped-held n h)) (λ h. omega (arith, capped-more n h)) (le_or_lt n most)

-- ---- one more character

slot_length_lem : (o : Slot) → size width (map as_selector (chosen o [])) ≡ slot_length o
slot_length_lem bare = refl
slot_length_lem (fixed q) = omega (arith, width_selector q)
slot_length_lem (decided d) = omega (arith, width_selector d)

pub slot-few : (o : Slot) → slot_length o ≤ 3
slot-few bare = omega arith
slot-few (fixed q) = omega arith
slot-few (decided d) = omega arith

module _ (p : Policy) where
  -- The totals: the counts of the cells, and the leading selectors, which are unsanctioned.
  total-after : (t u : List ℕ) → split u ≡ ([], cells t) → total_cells p u ≡ count_cells p (cells t)
  unfolding total_cells
  total-after t u e = ap (λ (a : List Presentation × List Cell). unsanctioned (length a.0) ⊕ count_cells p a.1) e
      ∙ empty-plus (count_cells p (cells t))

  pub total-leading : (t u : List ℕ) → split u ≡ ([], cells t) → total_cells p t ≡ unsanctioned (length (leading t)) ⊕ total_cells p u
  unfolding total_cells
  total-leading t u e = ap (λ (n : NonCanonicality). unsanctioned (length (leading t)) ⊕ n) (sym (total-after t u e))

  -- The totals at a character that is no selector: the counts of its cell, and those of the text after it.
  pub total-char : (c : ℕ) (t u : List ℕ) → is_selector c ≡ false → split u ≡ ([], cells t)
      → total_cells p (c ∷ t) ≡ (outcome p c (following (cells t)) (leading t)).counts ⊕ total_cells p u
  unfolding total_cells count_cells
  total-char c t u e h =
      let o = (outcome p c (following (cells t)) (leading t)).counts in
      ap (λ (a : List Presentation × List Cell). unsanctioned (length a.0) ⊕ count_cells p a.1) (split-char c t e)
      ∙ empty-plus (o ⊕ count_cells p (cells t)) ∙ ap (λ (n : NonCanonicality). o ⊕ n) (sym (total-after t u h))

  -- The formatted characters: leading selectors are removed.
  format-leading : (t u : List ℕ) → split u ≡ ([], cells t) → format_cells p u ≡ format_cells p t
  unfolding format_cells
  format-leading t u e = ap (λ (a : List Presentation × List Cell). render p a.1 []) e

  format-char : (c : ℕ) (t u : List ℕ) → is_selector c ≡ false → split u ≡ ([], cells t)
      → size width (format_cells p (c ∷ t)) ≡ width c + slot_length (outcome p c (following (cells t)) (leading t)).slot + size width
      (format_cells p u)
  unfolding format_cells renewed
  format-char c t u e h =
      let o = (outcome p c (following (cells t)) (leading t)).slot in
      let a = ap (size width) (render_cons p c t [] e) in
      let b = size_append width (map as_selector (chosen o [])) (render p (cells t) (remaining o [])) in
      let d = slot_length_lem o in
      let r : render p (cells t) (remaining o []) ≡ render p (cells u) [] = ap (render p (cells t)) (remaining-none o)
      ∙ sym (format-leading t u h) in
      omega (arith, a, b, d, ap (size width) r)

-- ---- the loop: at each turn, the counts and the length so far, with those of the rest, are those of the whole slice

pub record Measuring (p : Policy) (text : List ℕ) (at : ℕ) (counts : NonCanonicality) (len : ℕ) : Type 0 where
  pub counts_same : total_cells p (chars text) ≡ counts ⊕ total_cells p (chars (drop at text))
  pub length_same : capped (size width (format_cells p (chars text))) ≡ capped (len + size width (format_cells p (chars (drop at text))))
  -- The total of the counts is at most the number of bytes read.
  pub few_counts : total counts ≤ at
  pub held : len ≤ most
  -- No selector leads the rest.
  pub none_leads : leading (chars (drop at text)) ≡ []

-- The loop begins after the leading selectors.
pub measuring_begin : {p : Policy} {text : List ℕ} {counts : NonCanonicality} (r : PresentationSelectors) → r ≡ selector_run text 0
    → counts ≡ unsanctioned r.count → Measuring p text r.end counts 0
measuring_begin {p} {text} {counts} r h e =
    let t = chars text in
    let u = chars (drop r.end text) in
    let n : counts ≡ unsanctioned (length (leading t)) = e ∙ ap unsanctioned (read_count text 0 r h) in
    let s = split_at text 0 (read_end text 0 r h) in
    record {
      counts_same = total-leading p t u s ∙ ap (λ (m : NonCanonicality). m ⊕ total_cells p u) (sym n);
      length_same = ap capped (omega (arith, ap (size width) (format-leading p t u s)));
      few_counts = omega (arith, ap total n, read_end text 0 r h);
      held = omega arith;
      none_leads = ap (λ (a : List Presentation × List Cell). a.0) s;
    }

module _ {p : Policy} {text : List ℕ} {at : ℕ} {counts : NonCanonicality} {len : ℕ} (m : Measuring p text at counts len) where
  -- Where no character begins, the whole slice is counted and measured.
  pub measuring_done : Stop text at → (counts ≡ total_cells p (chars text)) × (len ≡ capped (size width (format_cells p (chars text))))
  unfolding total_cells count_cells format_cells render renew split
  measuring_done h = (
    sym (m.counts_same ∙ ap (λ (l : List ℕ). counts ⊕ total_cells p l) h.chars_none ∙ plus-empty counts),
    sym (m.length_same ∙ ap (λ (l : List ℕ). capped (len + size width (format_cells p l))) h.chars_none ∙ ap capped (omega arith)
        ∙ capped-held len m.held),
  )

  -- A turn that reads a cell.
  pub measuring_cell : {v w : ℕ} → Step text at v w → length text ≤ most → (o : Outcome) (end : ℕ)
      → o ≡ outcome p v (following (cells (chars (drop (at + w) text)))) (leading (chars (drop (at + w) text)))
      → end ≡ at + w + 3 * length (leading (chars (drop (at + w) text)))
      → Measuring p text end (capped_sum counts o.counts) (capped (len + (w + slot_length o.slot)))
  unfolding width
  measuring_cell {v} {w} h l o end ho he =
      let t = chars (drop (at + w) text) in
      let u = chars (drop end text) in
      let n = m.few_counts in
      let b = h.some in
      let r : end ≤ length text = omega (arith, he, selectors_room text (at + w) h.room) in
      let f : total o.counts ≤ suc (length (leading t)) =
      omega (arith, ap (λ (x : Outcome). total x.counts) ho, few p v (following (cells t)) (leading t)) in
      let a : capped_sum counts o.counts ≡ counts ⊕ o.counts = whole_sum counts o.counts (omega arith) in
      let e : is_selector v ≡ false = front-char v t (ap leading (sym h.chars_on) ∙ m.none_leads) in
      let s : split u ≡ ([], cells t) = split_at text (at + w) he in
      let c : total_cells p (v ∷ t) ≡ o.counts ⊕ total_cells p u = total-char p v t u e s
      ∙ ap (λ (x : Outcome). x.counts ⊕ total_cells p u) (sym ho) in
      let z : size width (format_cells p (v ∷ t)) ≡ width v + slot_length o.slot + size width (format_cells p u) =
      format-char p v t u e s ∙ ap (λ (x : Outcome). width v + slot_length x.slot + size width (format_cells p u)) (sym ho) in
      record {
        counts_same =
            m.counts_same ∙ ap (λ (x : List ℕ). counts ⊕ total_cells p x) h.chars_on ∙ ap (λ (x : NonCanonicality). counts ⊕ x) c
            ∙ sym (plus_assoc counts o.counts (total_cells p u)) ∙ ap (λ (x : NonCanonicality). x ⊕ total_cells p u) (sym a);
        length_same =
            m.length_same ∙ ap (λ (x : List ℕ). capped (len + size width (format_cells p x))) h.chars_on
            ∙ ap capped (omega (arith, h.width, z)) ∙ sym (capped-on (len + (w + slot_length o.slot)) (size width (format_cells p u)));
        few_counts = omega (arith, ap total a);
        held = capped-most (len + (w + slot_length o.slot));
        none_leads = ap (λ (x : List Presentation × List Cell). x.0) s;
      }

  -- A turn that reads a character without a variation entry, and its selectors, which are unsanctioned.
  pub measuring_plain : {v w : ℕ} → Step text at v w → length text ≤ most → has_variation_sequence v ≡ false → (end n : ℕ)
      → end ≡ at + w + 3 * length (leading (chars (drop (at + w) text))) → n ≡ (end - (at + w)) / 3
      → Measuring p text end (capped_sum counts (unsanctioned n)) (capped (len + w))
  unfolding rule1
  measuring_plain {v} {w} h l e end n he hn =
      let t = chars (drop (at + w) text) in
      let i : n ≡ length (leading t) = omega arith in
      let o : record { counts = unsanctioned n; slot = bare } ≡ outcome p v (following (cells t)) (leading t) =
      ap (λ (k : ℕ). record { counts = unsanctioned k; slot = bare }) i ∙ sym (outcome_no_entry p v (following (cells t)) (leading t) e) in
      subst (λ (k : ℕ). Measuring p text end (capped_sum counts (unsanctioned n)) (capped (len + k))) (add-zero w)
      (measuring_cell h l (record { counts = unsanctioned n; slot = bare }) end o he)
