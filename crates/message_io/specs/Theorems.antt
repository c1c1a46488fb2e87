-- Statements about the lines. proofs/Claims.antt proves each of them.
use Rattle.std.specs.Prelude.{◌≡◌, List, [], ◌∷◌, ℕ, ◌+◌, ◌*◌, ◌-◌}
use Rattle.base.specs.declared.Refusal.TheVariants.{NotWellFormed, TextTooLong}
use Rattle.message_io.specs.Lines.{decimal, finding_line, refusal_line, total_line}

-- The number that decimal digits encode, if n is the number of the digits before them.
unfoldable pub digits_number : ℕ → List ℕ → ℕ
digits_number n [] = n
digits_number n (d ∷ ds) = digits_number (10 * n + (d - 48)) ds

-- The digits of a number encode that number.
unfoldable pub DecimalReadsBack : Type 0
DecimalReadsBack = (n : ℕ) → digits_number 0 (decimal n) ≡ n

-- The lines of document 01's example, `0 4 0 0 0 0 0 0 1 0`, `5 8 0 0 0 0 0 0 0 1` and `total 0 0 0 0 0 0 1 1`; the line `refused 1`;
-- and `refused 3 12288`, for a text whose first 12,288 bytes are well-formed and the next byte is not.
unfoldable pub LineExamples : Type 0
LineExamples =
    (finding_line (0 ∷ 4 ∷ 0 ∷ 0 ∷ 0 ∷ 0 ∷ 0 ∷ 0 ∷ 1 ∷ 0 ∷ [])
    ≡ 0x30 ∷ 0x20 ∷ 0x34 ∷ 0x20 ∷ 0x30 ∷ 0x20 ∷ 0x30 ∷ 0x20 ∷ 0x30 ∷ 0x20 ∷ 0x30 ∷ 0x20 ∷ 0x30 ∷ 0x20 ∷ 0x30 ∷ 0x20 ∷ 0x31 ∷ 0x20 ∷ 0x30
    ∷ 0x0A ∷ [])
    × (finding_line (5 ∷ 8 ∷ 0 ∷ 0 ∷ 0 ∷ 0 ∷ 0 ∷ 0 ∷ 0 ∷ 1 ∷ [])
    ≡ 0x35 ∷ 0x20 ∷ 0x38 ∷ 0x20 ∷ 0x30 ∷ 0x20 ∷ 0x30 ∷ 0x20 ∷ 0x30 ∷ 0x20 ∷ 0x30 ∷ 0x20 ∷ 0x30 ∷ 0x20 ∷ 0x30 ∷ 0x20 ∷ 0x30 ∷ 0x20 ∷ 0x31
    ∷ 0x0A ∷ [])
    × (total_line (0 ∷ 0 ∷ 0 ∷ 0 ∷ 0 ∷ 0 ∷ 1 ∷ 1 ∷ [])
    ≡ 0x74 ∷ 0x6F ∷ 0x74 ∷ 0x61 ∷ 0x6C ∷ 0x20 ∷ 0x30 ∷ 0x20 ∷ 0x30 ∷ 0x20 ∷ 0x30 ∷ 0x20 ∷ 0x30 ∷ 0x20 ∷ 0x30 ∷ 0x20 ∷ 0x30 ∷ 0x20 ∷ 0x31
    ∷ 0x20 ∷ 0x31 ∷ 0x0A ∷ [])
    × (refusal_line TextTooLong ≡ 0x72 ∷ 0x65 ∷ 0x66 ∷ 0x75 ∷ 0x73 ∷ 0x65 ∷ 0x64 ∷ 0x20 ∷ 0x31 ∷ 0x0A ∷ [])
    × (refusal_line (NotWellFormed 12288)
    ≡ 0x72 ∷ 0x65 ∷ 0x66 ∷ 0x75 ∷ 0x73 ∷ 0x65 ∷ 0x64 ∷ 0x20 ∷ 0x33 ∷ 0x20 ∷ 0x31 ∷ 0x32 ∷ 0x32 ∷ 0x38 ∷ 0x38 ∷ 0x0A ∷ [])
