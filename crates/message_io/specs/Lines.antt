-- The lines that the programs write (document 01, "Programs"): for a finding, for the totals, for a refusal; and the output of a
-- program.
use Rattle.std.specs.Prelude.{cond, List, [], ◌∷◌, ◌++◌, map, ℕ, zero, suc, ◌+◌, ◌/◌, ◌%◌, leb, ltb, length, Option}
use Rattle.base.specs.Texts.{parted}
use Rattle.base.specs.Refusals.{or_else, refusal_row, returned}
use Rattle.base.specs.declared.Refusal.{Refusal}
use Rattle.base.specs.declared.Refusal.TheVariants.{TextTooLong}

-- ---- numbers

-- The digits of a number: the digits of a tenth of it, and its last digit. The first argument bounds the number of digits: there is at
-- most one digit more.
unfoldable pub decimal_by : ℕ → ℕ → List ℕ
decimal_by zero n = (48 + n) ∷ []
decimal_by (suc fuel) n = cond (ltb n 10) ((48 + n) ∷ []) (decimal_by fuel (n / 10) ++ ((48 + n % 10) ∷ []))

-- A number in decimal digits. Only the number 0 has the first digit 0. The bound n is large enough for the number n.
unfoldable pub decimal : ℕ → List ℕ
decimal n = decimal_by n n

-- ---- lines

-- The texts with a blank before each.
unfoldable pub with_blanks : List (List ℕ) → List ℕ
with_blanks [] = []
with_blanks (t ∷ ts) = 0x20 ∷ (t ++ with_blanks ts)

-- A line: ".. each line ended by 0A; numbers are parted by one blank".
unfoldable pub line : List (List ℕ) → List ℕ
line ts = parted 0x20 ts ++ (0x0A ∷ [])

-- The line of a finding, from its ten numbers: "The report writes, per finding, start, end and eight counts".
unfoldable pub finding_line : List ℕ → List ℕ
finding_line numbers = line (map decimal numbers)

-- The line of the eight totals, with the word `total` first: ".. then totals".
unfoldable pub total_line : List ℕ → List ℕ
total_line numbers = line ((0x74 ∷ 0x6F ∷ 0x74 ∷ 0x61 ∷ 0x6C ∷ []) ∷ map decimal numbers)

-- The line of a refusal: "`refused`, the number and any offset". The programs write only the refusals 1 and 3; the value of 3 is the
-- offset.
unfoldable pub refusal_line : Refusal → List ℕ
refusal_line r =
    line ((0x72 ∷ 0x65 ∷ 0x66 ∷ 0x75 ∷ 0x73 ∷ 0x65 ∷ 0x64 ∷ []) ∷ map decimal ((refusal_row r).number ∷ returned r))

-- ---- the output of a program

-- The output of a program for a message. For a message over the program's limit: ".. more gives `refused 1`". For a refusal: "On a
-- refusal either program writes only one such line". Otherwise it is the program's own result.
unfoldable pub program_output : ℕ → List ℕ → Option Refusal → List ℕ → List ℕ
program_output limit message refusal result =
    cond (leb (length message) limit) (or_else refusal refusal_line result) (refusal_line TextTooLong)
