-- Statements about a report. proofs/Claims.antt proves each of them.
use Rattle.std.specs.Prelude.{◌≡◌, List, [], ◌∷◌, ◌++◌, ℕ, ◌+◌, ◌*◌, ◌≤◌, length}
use Rattle.policy.specs.declared.Policy.{Policy}
use Rattle.formatter.specs.Worked.{example_bytes}
use Rattle.message_io.specs.Lines.{finding_line, total_line}
use Rattle.report.specs.Report.{message_limit, report_lines, reported}

-- The length of the longest report. A message has at most as many findings as bytes. Each of the ten numbers of a line has at most five
-- digits, with a blank or the 0A after it. The line of the totals has the word `total` and eight numbers.
abbrev pub report_room : ℕ
report_room = 60 * message_limit + 54

-- Under every policy, the lines of a message have at most this length.
unfoldable pub ReportFits : Type 0
ReportFits = (p : Policy) (message : List ℕ) → length message ≤ message_limit → length (report_lines p message) ≤ report_room

-- The report of document 01's example, "Input bytes 31 EF B8 8E 20 E2 9D A4 give". The bytes of the three lines are in message_io,
-- LineExamples.
unfoldable pub ExampleReported : Type 0
ExampleReported =
    reported example_bytes
    ≡ finding_line (0 ∷ 4 ∷ 0 ∷ 0 ∷ 0 ∷ 0 ∷ 0 ∷ 0 ∷ 1 ∷ 0 ∷ [])
    ++ (finding_line (5 ∷ 8 ∷ 0 ∷ 0 ∷ 0 ∷ 0 ∷ 0 ∷ 0 ∷ 0 ∷ 1 ∷ []) ++ total_line (0 ∷ 0 ∷ 0 ∷ 0 ∷ 0 ∷ 0 ∷ 1 ∷ 1 ∷ []))
