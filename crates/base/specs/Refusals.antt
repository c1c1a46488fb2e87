-- The refusals of document 01's table ("Turned back"), and the contents of a lent buffer after a call.
use Rattle.std.specs.Prelude.{List, [], ◌∷◌, ◌++◌, ℕ, codes, decimal, drop, length, ⊤, Option, None, Some, Result, Ok, Err}
use Rattle.std.specs.Option.{unwrap_or}
use Rattle.base.specs.declared.Refusal.{Refusal}
use Rattle.base.specs.declared.Refusal.TheVariants.{
  BadClientOrNumber,
  BadDecision,
  DoesNotFit,
  FeedEnded,
  NoFinding,
  NotAPolicy,
  NotASheet,
  NotAnEntry,
  NotAnEntryList,
  NotWellFormed,
  OtherVersion,
  OutputTooShort,
  TableTooShort,
  TextTooLong,
  UnfinishedCharacter,
  WrongNumberOfDecisions,
}

-- ---- the table

-- A row of document 01's table of refusals: "Number", and "Returned", which is `none` where the table says "nothing more".
pub record TableRow : Type 0 where
  pub number : ℕ
  pub returned : Option ℕ

-- Document 01's table, row by row, and the rows of document 02: "9, a piece or an end for a feed already ended ..; 10, an end inside a
-- character", "From here a new refusal joins 01's table and returns nothing more unless it says what"; 11 and 12 of a policy sheet, each
-- "with the offset"; 13 and 14 of a store, 14 "with the number of bytes that would" fit; 15, "another version"; 16, "an old list that
-- isn't strictly ascending or doesn't match the old policy's word count". The methods of src/refusals.rt equal it, and all other code
-- gets a refusal's number and value from them.
abbrev pub refusal_table : Refusal → TableRow
refusal_table TextTooLong = record { number = 1; returned = None }
refusal_table NotAPolicy = record { number = 2; returned = None }
refusal_table (NotWellFormed n) = record { number = 3; returned = Some n }
refusal_table NoFinding = record { number = 4; returned = None }
refusal_table (WrongNumberOfDecisions n) = record { number = 5; returned = Some n }
refusal_table (BadDecision n) = record { number = 6; returned = Some n }
refusal_table (TableTooShort n) = record { number = 7; returned = Some n }
refusal_table (OutputTooShort n) = record { number = 8; returned = Some n }
refusal_table FeedEnded = record { number = 9; returned = None }
refusal_table UnfinishedCharacter = record { number = 10; returned = None }
refusal_table (NotASheet n) = record { number = 11; returned = Some n }
refusal_table (NotAnEntry n) = record { number = 12; returned = Some n }
refusal_table BadClientOrNumber = record { number = 13; returned = None }
refusal_table (DoesNotFit n) = record { number = 14; returned = Some n }
refusal_table OtherVersion = record { number = 15; returned = None }
refusal_table NotAnEntryList = record { number = 16; returned = None }

-- The row of an answer as two numbers: its number, and its value or 0.
pub record RefusalRow : Type 0 where
  pub number : ℕ
  pub value : ℕ

-- A value that a refusal returns, after a blank.
abbrev pub value_words : Option ℕ → List ℕ
value_words None = []
value_words (Some n) = codes " " ++ decimal n

-- The words of a refusal, as a host prints them: "refused", its number and, if a value is returned, the value.
abbrev pub refusal_words : Refusal → List ℕ
refusal_words r = codes "refused " ++ decimal (refusal_table r).number ++ value_words (refusal_table r).returned

-- The row of a refusal as two numbers. The value is 0 where the table says "nothing more".
abbrev pub refusal_row : Refusal → RefusalRow
refusal_row r = record { number = (refusal_table r).number; value = unwrap_or (refusal_table r).returned 0 }

-- An optional number as a list of one number or none.
abbrev pub as_list : Option ℕ → List ℕ
as_list None = []
as_list (Some n) = n ∷ []

-- "Returned" of a refusal as a list: one number, or the empty list where the table says "nothing more".
abbrev pub returned : Refusal → List ℕ
returned r = as_list (refusal_table r).returned

-- "16,777,216 bytes pass, 16,777,217 don't."
abbrev pub text_limit : ℕ
text_limit = 16777216

-- The answer to tests, from the first refusal among them.
abbrev pub checked : Option Refusal → Result ⊤ Refusal
checked None = Ok tt
checked (Some r) = Err r

-- ---- the buffer after a call

-- An answer, and the contents of the lent buffer or table after the call.
pub record After (R A : Type 0) : Type 0 where
  pub answer : R
  pub buffer : List A

-- A call that changes no buffer ("Left as it was: all buffers").
abbrev pub unwritten : {R A : Type 0} → R → List A → After R A
unwritten r out = record { answer = r; buffer = out }

-- "A success writes its result at the front and leaves the bytes or places behind it unchanged."
abbrev pub written : {R A : Type 0} → R → List A → List A → After R A
written r result out = record { answer = r; buffer = result ++ drop (length result) out }

-- The refusal's answer if there is a refusal, or the answer of the next step.
abbrev pub or_else : {B : Type 0} → Option Refusal → (Refusal → B) → B → B
or_else (Some r) refused next = refused r
or_else None refused next = next
