-- Formatting and totals cell by cell (document 01, "Counts and finding", "Replacement and text"). A cell is a character and the
-- selectors after it; of the next cell, only its character matters. The results are those by items: crate formatter,
-- specs/Theorems.antt, CellByCell.
use Rattle.std.specs.Prelude.{List, [], ◌∷◌, ℕ, length}
use Rattle.policy.specs.declared.Policy.{Policy}
use Rattle.scanner.specs.Classes.{class_of}
use Rattle.scanner.specs.declared.char_class.Class.{Class}
use Rattle.scanner.specs.declared.char_class.Class.TheVariants.{Other as other}
use Rattle.analysis.specs.Analysis.{count_cells, render}
use Rattle.analysis.specs.Cells.{cells, leading}
use Rattle.analysis.specs.Counts.{◌⊕◌, unsanctioned}
use Rattle.analysis.specs.declared.types.NonCanonicality.{NonCanonicality}

-- The class of the first character; `other` if there is none.
unfoldable pub class_in_front : List ℕ → Class
class_in_front [] = other
class_in_front (c ∷ t) = class_of c

module _ (p : Policy) where
  -- The formatted characters. Selectors before the first other character are removed.
  unfoldable pub format_cells : List ℕ → List ℕ
  format_cells t = render p (cells t) []

  -- The eight totals. Selectors before the first other character are unsanctioned.
  unfoldable pub total_cells : List ℕ → NonCanonicality
  total_cells t = unsanctioned (length (leading t)) ⊕ count_cells p (cells t)
