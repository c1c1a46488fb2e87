-- The findings that lie inside a stretch of bytes, those that only share a byte with it, and the whole outcome of the call that lists both
-- (document 02, ix). A stretch is the bytes from an offset up to, not including, another.
use Rattle.std.specs.Prelude.{◌≡◌, Bool, ◌&&◌, cond, not, List, ℕ, ◌/◌, min, leb, ltb, length, Ok, Err, Result}
use Rattle.base.specs.Lists.{filter}
use Rattle.base.specs.Answers.{Answers, done, two_values}
use Rattle.base.specs.Refusals.{RefusalRow, or_else, refusal_row, written}
use Rattle.base.specs.Tables.{rows_bytes}
use Rattle.base.specs.declared.Refusal.{Refusal}
use Rattle.base.specs.declared.Refusal.TheVariants.{TableTooShort}
use Rattle.analysis.specs.declared.types.Finding.{Finding}
use Rattle.formatter.specs.Findings.{listed}
use Rattle.formatter.specs.Intake.{intake_refusal}
use Rattle.formatter.specs.List.{row_bytes, row_numbers}
use Rattle.findings_near.specs.declared.ListedAround.{ListedAround}

-- ---- a stretch

-- "Stretches reaching past the text are cut at its end"
abbrev pub stretch_end : List ℕ → ℕ → ℕ
stretch_end text to = min to (length text)

-- The bytes from `start` up to `end` lie wholly inside the stretch. "one that ends before its start is empty", and "an empty stretch has
-- neither".
unfoldable pub holds : ℕ → ℕ → ℕ → ℕ → Bool
holds from to start end = ltb from to && (leb from start && leb end to)

-- The bytes from `start` up to `end` share a byte with the stretch, and do not lie wholly inside it.
unfoldable pub meets : ℕ → ℕ → ℕ → ℕ → Bool
meets from to start end = (ltb from to && (ltb start to && ltb from end)) && not (holds from to start end)

-- A finding that lies wholly inside the stretch.
abbrev pub inside : ℕ → ℕ → Finding → Bool
inside from to f = holds from to f.start f.end

-- A finding that only shares a byte with the stretch.
abbrev pub only_shares : ℕ → ℕ → Finding → Bool
only_shares from to f = meets from to f.start f.end

-- "the findings that lie wholly inside it"
unfoldable pub inside_of : List ℕ → List ℕ → ℕ → ℕ → List Finding
inside_of text policy from to = filter (inside from (stretch_end text to)) (listed text policy)

-- "and, separately, those that only share a byte with it"
unfoldable pub sharing_of : List ℕ → List ℕ → ℕ → ℕ → List Finding
sharing_of text policy from to = filter (only_shares from (stretch_end text to)) (listed text policy)

-- ---- the call

-- The row of the answer: done with two values, the number of findings inside and the number of those that only share a byte; or the
-- refusal's row.
unfoldable pub around_row : Result ListedAround Refusal → RefusalRow
around_row (Ok a) = done (two_values a.inside a.sharing)
around_row (Err r) = refusal_row r

-- An answer, and the contents of the two lent tables after the call.
pub record AfterBoth : Type 0 where
  pub answer : Result ListedAround Refusal
  pub inner : List ℕ
  pub outer : List ℕ

-- A refusal leaves both tables as they were.
abbrev pub refuses : List ℕ → List ℕ → Refusal → AfterBoth
refuses inner outer r = record { answer = Err r; inner = inner; outer = outer }

-- Contract of the call: the answer that the definition gives, and both tables as the definition says.
pub record EndsAround (said : AfterBoth) (r : Result ListedAround Refusal) (inner outer : List ℕ) : Type 0 where
  pub answer : Answers around_row said.answer r
  pub inner_table : inner ≡ said.inner
  pub outer_table : outer ≡ said.outer

-- "Both lists go into lent tables; refusal 7 gives the number wanted by the first that is short, the wholly-inside table before the other."
-- Each list is written at the front of its table.
unfoldable pub fill_both : List Finding → List Finding → List ℕ → List ℕ → AfterBoth
fill_both holding sharing inner outer =
    cond (leb (length holding) (length inner / row_bytes))
    (cond (leb (length sharing) (length outer / row_bytes))
    (record {
      answer = Ok (record { inside = length holding; sharing = length sharing });
      inner = (written (length holding) (rows_bytes row_numbers holding) inner).buffer;
      outer = (written (length sharing) (rows_bytes row_numbers sharing) outer).buffer;
    })
    (refuses inner outer (TableTooShort (length sharing))))
    (refuses inner outer (TableTooShort (length holding)))

-- The call, with refusals 1, 2, 3 and 7 in this order.
unfoldable pub list_around : List ℕ → List ℕ → ℕ → ℕ → List ℕ → List ℕ → AfterBoth
list_around text policy from to inner outer =
    or_else (intake_refusal text policy) (refuses inner outer)
    (fill_both (inside_of text policy from to) (sharing_of text policy from to) inner outer)
