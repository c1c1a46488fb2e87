-- Answers in document 01's numbers ("Where an answer is an enum, a definition sets out this paper's number and values for each of its
-- cases. The promises use that definition."): the rows of the answers of all crates, and the two promises that name a row. A crate whose
-- answer holds a type of its own defines its row from `done`, `nothing` and `refusal_row`.
use Rattle.std.specs.Prelude.{◌≡◌, List, ℕ, ◌+◌, ◌*◌, ◌^◌, ⊤, Option, None, Some, Result, Ok, Err}
use Rattle.base.specs.Refusals.{After, RefusalRow, refusal_row}
use Rattle.base.specs.declared.Refusal.{Refusal}

-- ---- rows

-- The row of a success: the number 0 and a value. Document 01 numbers only refusals.
abbrev pub done : ℕ → RefusalRow
done n = record { number = 0; value = n }

-- Two values as one: the first in the low 28 bits, the second above them. An answer that has two says that both are below 2^28.
abbrev pub two_values : ℕ → ℕ → ℕ
two_values first second = first + second * 2 ^ 28

-- The row of an answer that says there is nothing to do or nothing to return: the number 255.
abbrev pub nothing : RefusalRow
nothing = record { number = 255; value = 0 }

-- The row of tests: a success without a value, or the refusal's row.
unfoldable pub check_row : Result ⊤ Refusal → RefusalRow
check_row (Ok x) = done 0
check_row (Err r) = refusal_row r

-- The row of a call that returns a number: a success with that number (of bytes, rows or findings), or the refusal's row.
unfoldable pub answer_row : Result ℕ Refusal → RefusalRow
answer_row (Ok n) = done n
answer_row (Err r) = refusal_row r

-- The row of a call that may have nothing to do or to return: the number 255, a success with a number, or the refusal's row.
unfoldable pub optional_row : Result (Option ℕ) Refusal → RefusalRow
optional_row (Ok None) = nothing
optional_row (Ok (Some n)) = done n
optional_row (Err r) = refusal_row r

-- The row of a call that finds a number, or nothing.
unfoldable pub found_row : Option ℕ → RefusalRow
found_row (Some n) = done n
found_row None = nothing

-- ---- promises

-- A call returns the answer that the definition gives, and the row of the returned answer is the row of that answer.
pub record Answers {R : Type 0} (row : R → RefusalRow) (said r : R) : Type 0 where
  pub same : r ≡ said
  pub same_row : row r ≡ row said

-- A call ends as its definition says: it returns the definition's answer, and the lent buffer then holds the definition's contents.
pub record EndsAs {R A : Type 0} (row : R → RefusalRow) (said : After R A) (r : R) (after : List A) : Type 0 where
  pub answer : Answers row said.answer r
  pub buffer : after ≡ said.buffer
