-- Encoding a number as bytes and decoding it are inverse; a result is written or refused; different refusals and different answers have
-- different rows.
use Rattle.std.specs.Prelude.{◌≡◌, true, List, ◌++◌, ℕ, ◌^◌, ◌<◌, ◌≤◌, drop, length, Option, Result, ⊤}
use Rattle.base.specs.Refusals.{refusal_row}
use Rattle.base.specs.declared.Refusal.{Refusal}
use Rattle.base.specs.Output.{answer_of, buffer_of}
use Rattle.base.specs.Answers.{answer_row, check_row, done, found_row, optional_row}
use Rattle.base.specs.Words.{all_bytes, little_endian, number, word_bytes}

-- The eight bytes of a number below 2 to the 64th encode that number.
unfoldable pub NumberOfWord : Type 0
NumberOfWord = (x : ℕ) → x < 2 ^ 64 → number (word_bytes x) ≡ x

-- Bytes are the encoding of the number that they encode.
unfoldable pub BytesOfNumber : Type 0
BytesOfNumber = (bs : List ℕ) → all_bytes bs ≡ true → little_endian (length bs) (number bs) ≡ bs

-- A result that fits is written at the front of the buffer, and the bytes after it do not change. A result that does not fit is refused
-- with document 01's number 8 and the length wanted, and the buffer does not change.
unfoldable pub WrittenOrRefused : Type 0
WrittenOrRefused =
    (result out : List ℕ)
    → (length result ≤ length out
    → (answer_row (answer_of result out) ≡ done (length result)) × (buffer_of result out ≡ result ++ drop (length result) out))
    × (length out < length result
    → (answer_row (answer_of result out) ≡ record { number = 8; value = length result }) × (buffer_of result out ≡ out))

-- Different refusals have different rows: no two causes have the same number, and the row holds the value that is returned.
unfoldable pub RefusalRowsDistinct : Type 0
RefusalRowsDistinct = (r s : Refusal) → refusal_row r ≡ refusal_row s → r ≡ s

-- Different answers of one type have different rows.
unfoldable pub AnswerRowsDistinct : Type 0
AnswerRowsDistinct =
    ((a b : Result ⊤ Refusal) → check_row a ≡ check_row b → a ≡ b)
    × ((a b : Result ℕ Refusal) → answer_row a ≡ answer_row b → a ≡ b)
    × ((a b : Result (Option ℕ) Refusal) → optional_row a ≡ optional_row b → a ≡ b)
    × ((a b : Option ℕ) → found_row a ≡ found_row b → a ≡ b)
