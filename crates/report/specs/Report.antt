-- The report of a message, `reported` (document 01, "Programs": "per finding, start, end and eight counts, then totals").
use Rattle.std.specs.Prelude.{List, [], ◌∷◌, ◌++◌, map, ℕ}
use Rattle.policy.specs.declared.Policy.{Policy}
use Rattle.policy.specs.DefaultPolicy.{default_policy}
use Rattle.policy.specs.PolicyBytes.{policy_bytes}
use Rattle.scanner.specs.Spans.{Found}
use Rattle.message_io.specs.Lines.{finding_line, program_output, total_line}
use Rattle.analysis.specs.declared.types.Finding.{Finding}
use Rattle.analysis.specs.declared.types.NonCanonicality.{NonCanonicality}
use Rattle.analysis.specs.Findings.{findings_from, totals}
use Rattle.formatter.specs.List.{count_numbers}
use Rattle.formatter.specs.Findings.{finding_row}
use Rattle.formatter.specs.Intake.{intake_refusal}

-- "Programs read at most 12,288 bytes under the default policy; more gives `refused 1`"
abbrev pub message_limit : ℕ
message_limit = 12288

-- The ten numbers of a finding's line: "The report writes, per finding, start, end and eight counts". Document 02, (v): "The report keeps
-- its byte columns".
unfoldable pub report_numbers : Finding → List ℕ
report_numbers f = f.start ∷ f.end ∷ count_numbers f.counts

-- The lines of the findings, one after the other.
unfoldable pub finding_lines : List Finding → List ℕ
finding_lines [] = []
finding_lines (f ∷ fs) = finding_line (report_numbers f) ++ finding_lines fs

-- The lines of the findings from an offset of the text on.
unfoldable pub lines_from : Policy → List ℕ → ℕ → List ℕ
lines_from p text at = finding_lines (map (finding_row p text) (findings_from p text at))

-- The eight totals of a text.
unfoldable pub totals_at : Policy → List ℕ → NonCanonicality
totals_at p text = totals p (map (λ (f : Found). f.item) (findings_from p text 0))

-- The lines of the findings, and the line of the totals.
unfoldable pub report_lines : Policy → List ℕ → List ℕ
report_lines p text = lines_from p text 0 ++ total_line (count_numbers (totals_at p text))

-- The output of the program: the lines of the findings and the line of the totals, or the line of a refusal.
unfoldable pub reported : List ℕ → List ℕ
reported message =
    program_output message_limit message (intake_refusal message (policy_bytes default_policy)) (report_lines default_policy message)
