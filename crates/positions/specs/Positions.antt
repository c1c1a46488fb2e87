-- Positions in a text, three times (document 02, v): in bytes, in characters and in UTF-16 units. `count_between` counts the last two
-- from one byte offset to another by the bytes alone; specs/Theorems.antt states that this is the difference of two positions.
use Rattle.std.specs.Prelude.{◌≡◌, cond, List, [], ◌∷◌, ℕ, ◌+◌, ◌-◌, ◌^◌, ◌≤◌, ◌<◌, leb, length, take, drop}
use Rattle.base.specs.Ranges.{within}
use Rattle.base.specs.Sums.{capped}
use Rattle.utf8.specs.Rfc3629.{WellFormed, chars}
use Rattle.positions.specs.declared.TextCount.{TextCount}

-- "UTF-16 units (one for a character up to FFFF, two above)"
unfoldable pub utf16_units : ℕ → ℕ
utf16_units c = cond (leb c 0xFFFF) 1 2

-- The UTF-16 units of characters.
unfoldable pub units : List ℕ → ℕ
units [] = 0
units (c ∷ t) = utf16_units c + units t

-- How many characters there are, and how many UTF-16 units they have.
unfoldable pub text_count : List ℕ → TextCount
text_count t = record { chars = length t; units = units t }

-- The count of no bytes.
abbrev pub no_count : TextCount
no_count = record { chars = 0; units = 0 }

-- "start and end three times: bytes, characters, and UTF-16 units": the position of a byte offset of a text is the number of characters,
-- and of UTF-16 units, of the text before it.
unfoldable pub position_at : List ℕ → ℕ → TextCount
position_at text n = text_count (chars (take n text))

-- A character boundary of a text: an offset within it, before which the text is well-formed.
pub record Boundary (text : List ℕ) (n : ℕ) : Type 0 where
  pub within_text : n ≤ length text
  pub well_formed : WellFormed (take n text)

-- A character boundary of a text in memory, which has fewer than 2^63 bytes, and its position.
pub record AtPosition (text : List ℕ) (n : ℕ) (count : TextCount) : Type 0 where
  pub few : length text < 2 ^ 63
  pub boundary : Boundary text n
  pub position : count ≡ position_at text n

-- ---- counting by the bytes alone

-- 1 for a byte outside 80..BF, which in well-formed bytes is the first byte of a character; 0 for any other byte.
unfoldable pub is_lead : ℕ → ℕ
is_lead b = cond (within 0x80 0xBF b) 0 1

-- 1 for a byte from F0 on, which in well-formed bytes is the first byte of a character above FFFF; 0 for any other byte.
unfoldable pub is_long_lead : ℕ → ℕ
is_long_lead b = cond (leb 0xF0 b) 1 0

-- The number of bytes outside 80..BF.
unfoldable pub leads : List ℕ → ℕ
leads [] = 0
leads (b ∷ s) = is_lead b + leads s

-- The number of bytes from F0 on.
unfoldable pub long_leads_of : List ℕ → ℕ
long_leads_of [] = 0
long_leads_of (b ∷ s) = is_long_lead b + long_leads_of s

-- The bytes of a text from an offset up to another. Offsets after the text's end count as its end, and there are none if the second offset
-- is not above the first.
unfoldable pub stretch : List ℕ → ℕ → ℕ → List ℕ
stretch text from to = take (to - from) (drop from text)

-- The count of any bytes, well-formed or not.
unfoldable pub counted : List ℕ → TextCount
counted s = record { chars = leads s; units = leads s + long_leads_of s }

-- The count of the bytes between two offsets.
unfoldable pub count_between : List ℕ → ℕ → ℕ → TextCount
count_between text from to = counted (stretch text from to)

-- Two counts together.
unfoldable pub plus : TextCount → TextCount → TextCount
plus x y = record { chars = x.chars + y.chars; units = x.units + y.units }

-- Two counts together as the code holds them. For counts of a text it is the true sum: specs/Theorems.antt, CountsAddUp.
unfoldable pub capped_plus : TextCount → TextCount → TextCount
capped_plus x y = record { chars = capped (x.chars + y.chars); units = capped (x.units + y.units) }
