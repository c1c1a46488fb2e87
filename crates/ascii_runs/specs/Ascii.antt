-- Runs of ASCII bytes. They are the bytes up to 7F; each is a character of one byte (RFC 3629, section 4, UTF8-1 = %x00-7F). `ascii_end`
-- is the end of the longest run that starts at an offset: specs/Theorems.antt, AsciiEndIsLongest.
use Rattle.std.specs.Prelude.{◌≡◌, cond, List, [], ◌∷◌, ℕ, suc, ◌+◌, ◌≤◌, ◌<◌, drop, get_or, length}
use Rattle.utf8.specs.Rfc3629.{utf8_1}

-- The number of ASCII bytes before the first byte that is not ASCII.
unfoldable pub ascii_bytes : List ℕ → ℕ
ascii_bytes [] = 0
ascii_bytes (b ∷ s) = cond (utf8_1 b) (suc (ascii_bytes s)) 0

-- The end of the run of ASCII bytes of s that starts at the offset `from`. A run that starts after the end of s is empty.
unfoldable pub ascii_end : List ℕ → ℕ → ℕ
ascii_end s from = from + ascii_bytes (drop from s)

-- Every byte of s from the offset `from` up to `end` is ASCII. If `from` is after the end of s, the run is empty.
pub record AsciiRun (s : List ℕ) (from end : ℕ) : Type 0 where
  pub from_le : from ≤ end
  pub inside : from ≤ length s → end ≤ length s
  pub after : length s ≤ from → end ≡ from
  pub ascii : (k : ℕ) → from ≤ k → k < end → get_or s k 0 ≤ 0x7F

-- The run ends at `end`: s ends there, or the byte there is above 7F.
abbrev pub NoAsciiAt : List ℕ → ℕ → Type 0
NoAsciiAt s end = end < length s → 0x7F < get_or s end 0

-- ---- contracts of helper functions

-- Each of the n bytes of s from the offset `from` on is at most `top`.
pub record AllUpTo (top : ℕ) (s : List ℕ) (from n : ℕ) : Type 0 where
  pub each : (k : ℕ) → from ≤ k → k < from + n → get_or s k 0 ≤ top
