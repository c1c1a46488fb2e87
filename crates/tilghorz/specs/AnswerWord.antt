-- The word that a C function returns for an answer: its top 8 bits are a number, its low 56 bits a value. The row of an answer
-- (crates/base/specs/Answers.antt) has both. The number is 0 for "done" (the value says how much was written, or is the code point),
-- document 01's number for a refusal (the value is what the refusal returns), and 255 for "nothing to do". If an
-- answer has two values, `two_values` of crates/base/specs/Answers.antt makes one value of them. `WordsHaveBothValues` of
-- specs/Theorems.antt says that the word has both.
use Rattle.std.specs.Prelude.{cond, List, ℕ, ◌+◌, ◌*◌, ◌%◌, ◌^◌, ◌<◌, leb, length}
use Rattle.base.specs.Refusals.{RefusalRow}

-- The word of a row. No answer has a value of 2^56 or more: `WordsDetermineAnswers` of specs/Theorems.antt.
abbrev pub word : RefusalRow → ℕ
word r = r.number * 2 ^ 56 + r.value % 2 ^ 56

-- The largest value of a word: 2^56 - 1.
abbrev pub most_value : ℕ
most_value = 72057594037927935

-- A row for the word of a store's call. The capacity of a store is any 64-bit number, and so are the words of bytes that are no store. A
-- value above the largest becomes the largest. `StoreWordsHaveValues` of specs/Theorems.antt says where no value does.
abbrev pub capped_row : RefusalRow → RefusalRow
capped_row r = record { number = r.number; value = cond (leb r.value most_value) r.value most_value }

-- Bytes that a machine can hold: fewer than 2^56. A cut of longer ones would not fit into the value of a word.
pub record HeldBytes : Type 0 where
  pub bytes : List ℕ
  pub held : length bytes < 2 ^ 56
