-- Writing a character at an offset of a lent buffer: the answer, and the buffer's contents after the call.
use Rattle.std.specs.Prelude.{cond, ◌&&◌, List, ℕ, length, Ok, Err, Result}
use Rattle.std.proofs.lemmas.List.Edits.{sets}
use Rattle.base.specs.Answers.{done, nothing}
use Rattle.base.specs.Output.{room_for}
use Rattle.base.specs.Refusals.{RefusalRow, refusal_row}
use Rattle.base.specs.declared.Refusal.TheVariants.{OutputTooShort}
use Rattle.utf8.specs.Rfc3629.{is_scalar, encode}
use Rattle.utf8_encoding.specs.declared.WriteCharError.{WriteCharError}
use Rattle.utf8_encoding.specs.declared.WriteCharError.TheVariants.{TooShort, NotScalar}

-- The answer: the number of bytes written, the number of bytes that do not fit, or that v is no scalar value and so has no encoding
-- (RFC 3629, section 3).
unfoldable pub write_char : ℕ → List ℕ → ℕ → Result ℕ WriteCharError
write_char v out at =
    cond (is_scalar v) (cond (room_for (encode v) out at) (Ok (length (encode v))) (Err (TooShort (length (encode v))))) (Err NotScalar)

-- The answer's row: the number of bytes written, refusal 8, or the number 255 for a value that has no encoding.
unfoldable pub char_row : Result ℕ WriteCharError → RefusalRow
char_row (Ok w) = done w
char_row (Err (TooShort w)) = refusal_row (OutputTooShort w)
char_row (Err NotScalar) = nothing

-- The buffer after the call. A success writes the encoding of v at the offset and changes no other byte. A refusal changes no byte.
unfoldable pub after_write_char : ℕ → List ℕ → ℕ → List ℕ
after_write_char v out at = cond (is_scalar v && room_for (encode v) out at) (sets out at (encode v)) out
