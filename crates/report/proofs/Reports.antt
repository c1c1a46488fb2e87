-- The lines of the findings from an offset on, by the analysis of the item there; and the totals.
use mathlib.Core.Path.{◌≡◌, ap, sym, ◌∙◌}
use mathlib.Core.List.{List, [], ◌++◌, map}
use Prim.Native.Nat.{ℕ}
use Rattle.utf8.specs.Rfc3629.{chars}
use Rattle.positions.specs.declared.TextCount.{TextCount}
use Rattle.policy.specs.declared.Policy.{Policy}
use Rattle.message_io.specs.Lines.{finding_line, total_line}
use Rattle.analysis.specs.CellView.{total_cells}
use Rattle.analysis.specs.ItemAt.{analysis_at}
use Rattle.analysis.specs.declared.ItemAnalysis.TheVariants.{Canonical, End, NonCanonical}
use Rattle.analysis.specs.declared.types.Finding.{Finding}
use Rattle.analysis.specs.declared.types.NonCanonicality.{NonCanonicality}
use Rattle.formatter.specs.List.{count_numbers}
use Rattle.formatter.specs.Findings.{finding_row}
use Rattle.formatter.proofs.CellView.{totals-by-cells}
use Rattle.formatter.proofs.Steps.{Ahead, analysis_says}
use Rattle.report.specs.Report.{lines_from, report_numbers, finding_lines, totals_at}

-- ---- the item at an offset

module _ (p : Policy) (text : List ℕ) (at : ℕ) (before : TextCount) where
  pub at_end : End ≡ analysis_at p text at before → lines_from p text at ≡ []
  unfolding lines_from finding_lines
  at_end e = ap (λ fs. finding_lines (map (finding_row p text) fs)) (analysis_says p text at before e)

  pub no_finding_lem : {end m n : ℕ} → Canonical end m n ≡ analysis_at p text at before
      → Ahead text at end × (lines_from p text at ≡ lines_from p text end)
  unfolding lines_from
  no_finding_lem e =
      let s = analysis_says p text at before e in
      (s.0, ap (λ fs. finding_lines (map (finding_row p text) fs)) s.1)

  pub a_finding : {f : Finding} → NonCanonical f ≡ analysis_at p text at before
      → Ahead text at f.end × (lines_from p text at ≡ finding_line (report_numbers f) ++ lines_from p text f.end)
  unfolding lines_from finding_lines finding_row report_numbers
  a_finding {f} e =
      let s = analysis_says p text at before e in
      let h = s.1 in (
        s.0,
        ap (λ fs. finding_lines (map (finding_row p text) fs)) h.here
            ∙ ap (λ (g : Finding). finding_line (report_numbers g) ++ lines_from p text f.end) (sym h.is),
      )

-- ---- the totals

-- The totals are the counts of the cells.
pub totals_are : (p : Policy) (text : List ℕ) {n : NonCanonicality} → n ≡ total_cells p (chars text)
    → total_line (count_numbers n) ≡ total_line (count_numbers (totals_at p text))
unfolding totals_at
totals_are p text e = ap (λ (n : NonCanonicality). total_line (count_numbers n)) (e ∙ sym (totals-by-cells p (chars text)))
