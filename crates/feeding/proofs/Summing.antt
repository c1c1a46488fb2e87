-- The totals of a text, from finding to finding.
use mathlib.Core.Path.{◌≡◌, ap, sym, ◌∙◌}
use mathlib.Core.List.{List, []}
use Prim.Native.Nat.{ℕ, ◌+◌, ◌≤◌}
use native.Mathlib.Omega.{arith}
use lib.ListN.{drop, length}
use Rattle.base.specs.Refusals.{text_limit}
use Rattle.utf8.specs.Rfc3629.{chars}
use Rattle.utf8.proofs.Texts.{length_encode_all_chars, valid_up_to_le}
use Rattle.emoji.specs.declared.presentation.Presentation.{Presentation}
use Rattle.policy.specs.declared.Policy.{Policy}
use Rattle.scanner.specs.Spans.{Found}
use Rattle.analysis.specs.Analysis.{count_cells, following}
use Rattle.analysis.specs.Cells.{Cell, cells, leading, split}
use Rattle.analysis.specs.CellView.{total_cells}
use Rattle.analysis.specs.Counts.{◌⊕◌, capped_sum, empty, total}
use Rattle.analysis.specs.Findings.{findings_from, totals}
use Rattle.analysis.specs.declared.types.NonCanonicality.{NonCanonicality}
use Rattle.analysis.proofs.Cells.{by-chars, split-char, split_selector}
use Rattle.analysis.proofs.Counts.{empty-plus, plus_assoc, plus-empty}
use Rattle.analysis.proofs.Measuring.{few}
use Rattle.analysis.proofs.Sums.{whole_sum}
use Rattle.text_pass.specs.Findings.{Counted, NoFindingBetween}
use Rattle.text_pass.proofs.Passing.{finds_here}
use Rattle.formatter.proofs.CellView.{totals-by-cells}
use Rattle.feed.proofs.PieceRoom.{count_le}
use Rattle.formatter.proofs.Marks.{found_totals}
use Rattle.formatter.proofs.Steps.{none_found}

-- ---- the totals are at most the number of characters

count-few : (p : Policy) (t : List ℕ) → total (count_cells p (cells t)) + length (leading t) ≤ length t
unfolding split count_cells
count-few p =
    let counted : List Presentation × List Cell → ℕ = λ (a : List Presentation × List Cell). total (count_cells p a.1) + length a.0 in
    by-chars (λ t. total (count_cells p (cells t)) + length (leading t) ≤ length t) (omega arith)
    (λ q t h. omega (arith, h, ap counted (split_selector q t)))
    (λ c t e h. omega (arith, h, ap counted (split-char c t e), few p c (following (cells t)) (leading t)))

pub total-few : (p : Policy) (t : List ℕ) → total (total_cells p t) ≤ length t
unfolding total_cells
total-few p t = omega (arith, count-few p t)

pub total_bytes : (p : Policy) (text : List ℕ) → total (total_cells p (chars text)) ≤ length text
total_bytes p text = omega (arith, total-few p (chars text), count_le (chars text), length_encode_all_chars text, valid_up_to_le text)

-- ---- the loop

module _ (p : Policy) (text : List ℕ) where
  pub record Summing (at : ℕ) (sums : NonCanonicality) : Type 0 where
    pub inside : at ≤ length text
    pub same : total_cells p (chars text) ≡ sums ⊕ found_totals p (findings_from p text at)

  pub summing_begin : {n : NonCanonicality} → n ≡ empty → Summing 0 n
  summing_begin e = record {
    inside = omega arith;
    same =
        sym (totals-by-cells p (chars text)) ∙ sym (empty-plus _)
        ∙ ap (λ (m : NonCanonicality). m ⊕ found_totals p (findings_from p text 0)) (sym e);
  }

  module _ {at : ℕ} {sums : NonCanonicality} (g : Summing at sums) {start : ℕ} (a : NoFindingBetween p text at start) where
    pub summing-done : chars (drop start text) ≡ [] → sums ≡ total_cells p (chars text)
    unfolding totals
    summing-done e =
        sym (g.same ∙ ap (λ (l : List Found). sums ⊕ found_totals p l) (a.same ∙ none_found p text start e) ∙ plus-empty sums)

    module _ {end : ℕ} {n : NonCanonicality} (f : Counted p text start end n) where
      next-same : total_cells p (chars text) ≡ sums ⊕ (n ⊕ found_totals p (findings_from p text end))
      unfolding totals
      next-same =
          g.same ∙ ap (λ (l : List Found). sums ⊕ found_totals p l) (a.same ∙ finds_here f.finds)
          ∙ ap (λ (m : NonCanonicality). sums ⊕ (m ⊕ found_totals p (findings_from p text end))) (sym f.counts_are)

      pub summing_on : {s : NonCanonicality} → s ≡ capped_sum sums n → end ≤ length text → length text ≤ text_limit → Summing end s
      summing_on {s} e r l = record {
        inside = r;
        same =
            next-same ∙ sym (plus_assoc sums n (found_totals p (findings_from p text end)))
            ∙ ap (λ (m : NonCanonicality). m ⊕ found_totals p (findings_from p text end))
            (sym (e ∙ whole_sum sums n (omega (arith, ap total next-same, total_bytes p text))));
      }
