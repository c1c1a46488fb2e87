-- A table that the caller lends, as bytes: rows of numbers, and the table's contents after it is filled (document 01, "Turned back",
-- number 7).
use Rattle.base.specs.declared.Refusal.{Refusal}
use Rattle.std.specs.Prelude.{cond, List, [], ◌∷◌, ◌++◌, ℕ, ◌/◌, leb, length, Ok, Err, Result}
use Rattle.base.specs.Refusals.{After, unwritten, written}
use Rattle.base.specs.Words.{bytes_of}
use Rattle.base.specs.declared.Refusal.TheVariants.{TableTooShort}

module _ {A : Type 0} (numbers : A → List ℕ) where
  -- Rows of numbers as bytes, one row after the other: "There .. a start, an end or a count is 8 bytes, lowest first".
  unfoldable pub rows_bytes : List A → List ℕ
  rows_bytes [] = []
  rows_bytes (x ∷ xs) = bytes_of (numbers x) ++ rows_bytes xs

  -- Fills a table whose rows have the given number of bytes. The table has as many places as whole rows fit into it; with fewer
  -- places than rows the answer is refusal 7.
  unfoldable pub fill_table : ℕ → List A → List ℕ → After (Result ℕ Refusal) ℕ
  fill_table bytes rows table =
      cond (leb (length rows) (length table / bytes)) (written (Ok (length rows)) (rows_bytes rows) table)
      (unwritten (Err (TableTooShort (length rows))) table)
