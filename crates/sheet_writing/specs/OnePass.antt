-- A line of a sheet in one pass over the variation entries, as the code writes it. proofs/OnePass.antt ties it to `line_text` of crate
-- policy_sheet, specs/Writer.antt.
use Rattle.std.specs.Prelude.{Bool, true, false, ◌||◌, List, [], ◌∷◌, ◌++◌, ℕ, suc}
use Rattle.policy_sheet.specs.Writer.{first_in, point_text}

-- A piece with a comma before it, if there are pieces before it in the line.
unfoldable pub with_comma : Bool → List ℕ → List ℕ
with_comma false t = t
with_comma true t = 0x2C ∷ t

-- The bytes that an entry adds to a line. The Booleans say whether the entry before it, any entry before it, the entry itself and the
-- next entry are in the set.
unfoldable pub entry_text : Bool → Bool → Bool → Bool → ℕ → List ℕ
entry_text before any false next c = []
entry_text false any true next c = with_comma any (point_text c)
entry_text true any true true c = []
entry_text true any true false c = 0x2D ∷ point_text c

-- The bytes that the entries from entry i on add to a line. The Booleans say whether the entry before them, and any entry before them,
-- are in the set.
unfoldable pub line_from : (ℕ → Bool) → ℕ → Bool → Bool → List ℕ → List ℕ
line_from p i before any [] = []
line_from p i before any (c ∷ cs) = entry_text before any (p i) (first_in p (suc i) cs) c ++ line_from p (suc i) (p i) (any || p i) cs
