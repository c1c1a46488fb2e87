-- Contracts of helper functions: listing findings step by step (document 01, "Counts and finding", "Turned back"). The whole outcomes of
-- the calls are `list_bytes` and `list` of crates/formatter/specs/List.antt; `few_findings` is the outcome of `list` on a table of eight
-- places.
use Rattle.std.specs.Prelude.{List, [], ◌∷◌, map, ℕ, replicate, None, Some, Option}
use Rattle.policy.specs.declared.Policy.{Policy}
use Rattle.policy.specs.PolicyBytes.{policy_of}
use Rattle.analysis.specs.Counts.{empty}
use Rattle.analysis.specs.declared.types.Finding.{Finding}
use Rattle.analysis.specs.Findings.{findings_from}
use Rattle.formatter.specs.Findings.{finding_row}
use Rattle.formatter.specs.List.{list}
use Rattle.listing.specs.declared.table.FewFindings.{FewFindings}

-- The rows of all findings of a text, by its bytes and the policy's.
abbrev pub finding_rows : List ℕ → List ℕ → List Finding
finding_rows text policy = map (finding_row (policy_of policy) text) (findings_from (policy_of policy) text 0)

-- An empty finding at an offset: its characters and units are 0.
abbrev pub no_finding : ℕ → Finding
no_finding at = record {
  start = at;
  end = at;
  counts = empty;
  char_start = 0;
  char_end = 0;
  unit_start = 0;
  unit_end = 0;
}

-- The first finding of a list, if it has one.
abbrev pub first_of : List Finding → Option Finding
first_of [] = None
first_of (f ∷ fs) = Some f

-- "in text order": the first finding from an offset on, if there is one.
unfoldable pub first_finding : Policy → List ℕ → ℕ → Option Finding
first_finding p text at = first_of (map (finding_row p text) (findings_from p text at))

-- The answer of listing into a table of eight empty findings, and the table after the call.
unfoldable pub few_findings : List ℕ → List ℕ → FewFindings
few_findings text policy =
    let after = list text policy (replicate 8 (no_finding 0)) in
    record { answer = after.answer; findings = after.buffer }
