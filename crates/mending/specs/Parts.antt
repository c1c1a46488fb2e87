-- Contracts of helper functions: the parts of a mending call. The whole outcome of the call is `mend` of crates/formatter/specs/Mend.antt.
use Rattle.std.specs.Prelude.{◌≡◌, true, false, List, ◌++◌, ℕ, ◌-◌, drop, take, Some, None}
use Rattle.utf8.specs.Rfc3629.{chars, encode_all}
use Rattle.emoji.specs.declared.presentation.Presentation.{Presentation}
use Rattle.policy.specs.declared.Policy.{Policy}
use Rattle.analysis.specs.Analysis.{render}
use Rattle.analysis.specs.Cells.{cells}
use Rattle.analysis.specs.Findings.{finding_at, findings_from}
use Rattle.text_pass.specs.Findings.{Finds}
use Rattle.mending.specs.declared.FindingStart.{FindingStart}

-- A finding starts at the offset and ends at `end`; it is the one that `finding_at` finds among the findings of the text.
pub record Starts (p : Policy) (text : List ℕ) (offset end : ℕ) : Type 0 where
  pub finds : Finds p text offset end
  pub found : finding_at offset (findings_from p text 0) ≡ Some finds.item

-- If a finding is present, it starts at the offset and ends at `end`. If not, no finding of the text starts there.
abbrev pub FindingStarting : Policy → List ℕ → ℕ → FindingStart → Type 0
FindingStarting p text offset r =
    (r.present ≡ true → Starts p text offset r.end) × (r.present ≡ false → finding_at offset (findings_from p text 0) ≡ None)

-- The bytes that are written for the cells of a text between two offsets: each cell has the selector that the rules and the decisions give.
abbrev pub cells_written : Policy → List ℕ → ℕ → ℕ → List Presentation → List ℕ
cells_written p text start end ds = encode_all (render p (cells (chars (take (end - start) (drop start text)))) ds)

-- The whole text, with the bytes between two offsets exchanged for what is written for their cells.
abbrev pub with_cells_written : Policy → List ℕ → ℕ → ℕ → List Presentation → List ℕ
with_cells_written p text start end ds = take start text ++ cells_written p text start end ds ++ drop end text
