-- Contracts of helper functions: the next finding with its positions, and a pass that keeps the nearest finding.
use Rattle.std.specs.Prelude.{◌≡◌, List, [], ◌∷◌, map, ℕ, ◌+◌, ◌-◌, ◌<◌, ◌≤◌, drop, length, ⊤, Some, None, Option}
use Rattle.utf8.specs.Rfc3629.{valid_up_to_of}
use Rattle.policy.specs.declared.Policy.{Policy}
use Rattle.positions.specs.Positions.{AtPosition}
use Rattle.positions.specs.declared.TextCount.{TextCount}
use Rattle.analysis.specs.Findings.{findings_from}
use Rattle.analysis.specs.declared.types.Finding.{Finding}
use Rattle.formatter.specs.Findings.{finding_row}
use Rattle.findings_near.specs.Nearest.{nearer}
use Rattle.findings_near.specs.declared.rows.NextRow.{NextRow}
use Rattle.findings_near.specs.declared.rows.NextRow.TheVariants.{End, Found}

-- The listed findings from an offset on.
abbrev pub rows_from : Policy → List ℕ → ℕ → List Finding
rows_from p text at = map (finding_row p text) (findings_from p text at)

-- The end of a finding in characters and units.
abbrev pub end_of : Finding → TextCount
end_of f = record { chars = f.char_end; units = f.unit_end }

module _ (p : Policy) (text : List ℕ) (at : ℕ) where
  -- The finding f is the next one from the offset on.
  pub record IsNext (f : Finding) : Type 0 where
    pub rows : rows_from p text at ≡ f ∷ rows_from p text f.end
    pub on : at ≤ f.start
    pub some : f.start < f.end
    pub room : f.end ≤ length text
    pub valid : valid_up_to_of (drop at text) ≡ (f.end - at) + valid_up_to_of (drop f.end text)
    pub after : AtPosition text f.end (end_of f)

  -- There is no finding from the offset on, and the text is well-formed from there up to the offset `stop`.
  pub record IsLast (stop : ℕ) : Type 0 where
    pub rows : rows_from p text at ≡ []
    pub valid : stop ≡ at + valid_up_to_of (drop at text)

  -- The next finding from the offset on, if there is one; else the end of the longest well-formed beginning.
  abbrev pub GivesRow : NextRow → Type 0
  GivesRow (Found f) = IsNext f
  GivesRow (End stop) = IsLast stop

-- A finding, if there is one, has a byte.
abbrev pub HasByte : Option Finding → Type 0
HasByte None = ⊤
HasByte (Some f) = f.start < f.end

-- The nearest of the findings so far, if there are any, with one finding more.
unfoldable pub closer : ℕ → Option Finding → Finding → Finding
closer o None f = f
closer o (Some b) f = nearer o b (Some f)
