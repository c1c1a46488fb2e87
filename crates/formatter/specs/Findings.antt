-- The findings and the totals of a text, by its bytes and the policy's, and the row of a finding (document 01, "Counts and finding").
-- crates/analysis/specs/Findings.antt has the findings from an offset on.
use Rattle.std.specs.Prelude.{List, map, ℕ, ◌+◌}
use Rattle.positions.specs.Positions.{position_at}
use Rattle.policy.specs.PolicyBytes.{policy_of}
use Rattle.policy.specs.declared.Policy.{Policy}
use Rattle.scanner.specs.Spans.{Found, size, width}
use Rattle.analysis.specs.Analysis.{non_canonicality}
use Rattle.analysis.specs.Findings.{findings_from, totals}
use Rattle.analysis.specs.declared.types.Finding.{Finding}
use Rattle.analysis.specs.declared.types.NonCanonicality.{NonCanonicality}

-- A finding of a text as it is listed, by its start, its end and its counts. "Every item and finding now carries start and end three times:
-- bytes, characters, and UTF-16 units": the positions of its start and its end in the text.
abbrev pub row_in : List ℕ → ℕ → ℕ → NonCanonicality → Finding
row_in text start end n = record {
  start = start;
  end = end;
  counts = n;
  char_start = (position_at text start).chars;
  char_end = (position_at text end).chars;
  unit_start = (position_at text start).units;
  unit_end = (position_at text end).units;
}

-- "A listed finding is its start, its end and the eight counts", and the four new numbers.
unfoldable pub finding_row : Policy → List ℕ → Found → Finding
finding_row p text f = row_in text f.start (f.start + size width f.item.chars) (non_canonicality p f.item)

-- The findings of a text, by its bytes and the policy's.
unfoldable pub findings : List ℕ → List ℕ → List Found
findings text policy = findings_from (policy_of policy) text 0

-- The rows that listing gives for a text.
abbrev pub listed : List ℕ → List ℕ → List Finding
listed text policy = map (finding_row (policy_of policy) text) (findings text policy)

-- The eight totals of a text under a policy.
unfoldable pub text_totals : List ℕ → List ℕ → NonCanonicality
text_totals text policy = totals (policy_of policy) (map (λ (f : Found). f.item) (findings text policy))
