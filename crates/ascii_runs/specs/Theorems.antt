-- A statement about runs of ASCII bytes. proofs/Claims proves it under the same name in snake case.
use Rattle.std.specs.Prelude.{◌≡◌, ◌↔◌, List, ℕ}
use Rattle.ascii_runs.specs.Ascii.{AsciiRun, NoAsciiAt, ascii_end}

-- `ascii_end` is the end of the longest run of ASCII bytes: the bytes up to it are ASCII, and the text ends there or the byte there is
-- above 7F. No other offset has both properties.
unfoldable pub AsciiEndIsLongest : Type 0
AsciiEndIsLongest =
    (s : List ℕ) (from end : ℕ) → (end ≡ ascii_end s from) ↔ (AsciiRun s from end × NoAsciiAt s end)
