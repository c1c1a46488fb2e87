-- The proof of each statement of specs/Theorems.antt.
use Rattle.base.specs.Answers.{answer_row}
use lib.ListN.{length}
use borrow.Author.Tests.{le-leb, lt-leb}
use Rattle.base.specs.Output.{answer_of, buffer_of}
use Rattle.base.specs.Words.{word_bytes}
use Rattle.base.specs.Theorems.{BytesOfNumber, NumberOfWord, AnswerRowsDistinct, RefusalRowsDistinct, WrittenOrRefused}
use Rattle.base.proofs.Rows.{answer-rows, check_rows, found-rows, optional-rows, rows_distinct}
use Rattle.base.proofs.Words.{little_endian-number, number-little_endian}

pub number_of_word : NumberOfWord
unfolding NumberOfWord word_bytes
number_of_word x h = number-little_endian 8 x h

pub bytes_of_number : BytesOfNumber
unfolding BytesOfNumber
bytes_of_number = little_endian-number

pub written_or_refused : WrittenOrRefused
unfolding WrittenOrRefused answer_of buffer_of answer_row
written_or_refused result out = (
  λ h. let t = le-leb (length result) (length out) h in (simp t, simp t),
  λ h. let t = lt-leb (length result) (length out) h in (simp t, simp t),
)

pub refusal_rows_distinct : RefusalRowsDistinct
refusal_rows_distinct = rows_distinct

pub answer_rows_distinct : AnswerRowsDistinct
unfolding AnswerRowsDistinct
answer_rows_distinct = (check_rows, answer-rows, optional-rows, found-rows)
