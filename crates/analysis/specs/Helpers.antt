-- Contracts of helper functions: functions of the crate replacing that write or measure one cell, and that look for an item.
use Rattle.base.specs.declared.Refusal.{Refusal}
use Rattle.std.specs.Prelude.{Bool, false, cond, ◌||◌, List, [], ◌∷◌, ◌++◌, map, ℕ, eqb, Result}
use Rattle.base.specs.Refusals.{After}
use Rattle.utf8.specs.Rfc3629.{chars, encode, encode_all}
use Rattle.emoji.specs.Presentation.{as_selector}
use Rattle.emoji.specs.declared.presentation.Presentation.{Presentation}
use Rattle.policy.specs.declared.Policy.{Policy}
use Rattle.positions.specs.Positions.{no_count}
use Rattle.scanner.specs.Spans.{scan}
use Rattle.scanner.specs.declared.ScanItem.{ScanItem}
use Rattle.analysis.specs.Analysis.{chosen, render}
use Rattle.analysis.specs.Cells.{cells}
use Rattle.analysis.specs.Decisions.{meaning, within_limit, write_out}
use Rattle.analysis.specs.ItemAt.{analysis_at}
use Rattle.analysis.specs.Rules.{Slot, bare, decided, fixed}
use Rattle.analysis.specs.declared.ItemAnalysis.{ItemAnalysis}
use Rattle.analysis.specs.declared.ItemAnalysis.TheVariants.{End}

-- The number of decisions that a slot takes.
abbrev pub decisions_used : Slot → ℕ
decisions_used bare = 0
decisions_used (fixed q) = 0
decisions_used (decided d) = 1

-- The bytes of a character and of the selector that its slot holds under the decisions.
abbrev pub cell_bytes : ℕ → Slot → List Presentation → List ℕ
cell_bytes c o ds = encode c ++ encode_all (map as_selector (chosen o ds))

-- The number of bytes of the selector that a slot holds; 0 if it holds none.
abbrev pub slot_length : Slot → ℕ
slot_length bare = 0
slot_length (fixed q) = 3
slot_length (decided d) = 3

-- Whether one of the items starts at an offset.
unfoldable pub starts_at : ℕ → List ScanItem → Bool
starts_at offset [] = false
starts_at offset (x ∷ xs) = eqb x.start offset || starts_at offset xs

module _ (p : Policy) where
  -- The analysis of the item that starts at an offset, among the items of the text scanned from its beginning. An item that only
  -- contains the offset does not count. Its characters and units are counted from the offset on.
  abbrev pub starting_analysis : List ℕ → ℕ → ItemAnalysis
  starting_analysis text offset = cond (starts_at offset (scan text)) (analysis_at p text offset no_count) End

  -- The call that writes the cells of a slice under decisions: refusals 1 and 8, in this order.
  abbrev pub write_cells : List ℕ → List ℕ → List ℕ → After (Result ℕ Refusal) ℕ
  write_cells raw decisions out = within_limit raw out (write_out (encode_all (render p (cells (chars raw)) (map meaning decisions))) out)
