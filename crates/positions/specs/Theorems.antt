-- Statements about positions. Each statement is proved in proofs/Claims.antt, under the same name in snake case.
use Rattle.std.specs.Prelude.{◌≡◌, ◌↔◌, List, [], ◌∷◌, map, ℕ, ◌≤◌, ◌<◌, ◌*◌, ◌^◌, length, get_or}
use Rattle.utf8.specs.Rfc3629.{WellFormed, chars}
use Rattle.positions.specs.declared.TextCount.{TextCount}
use Rattle.positions.specs.Positions.{
  Boundary,
  capped_plus,
  count_between,
  counted,
  is_lead,
  plus,
  position_at,
  stretch,
  text_count,
  utf16_units,
}

-- In well-formed bytes the lead bytes count the characters, and these and the lead bytes of four bytes count the UTF-16 units.
unfoldable pub CountedByBytes : Type 0
CountedByBytes = (s : List ℕ) → WellFormed s → counted s ≡ text_count (chars s)

-- The bytes between two character boundaries are well-formed, and the count is that of their characters.
unfoldable pub CountedBetween : Type 0
CountedBetween =
    (text : List ℕ) (from to : ℕ) → Boundary text from → Boundary text to → from ≤ to
    → WellFormed (stretch text from to) × (count_between text from to ≡ text_count (chars (stretch text from to)))

-- The count between two character boundaries is the difference of their positions. The text after them need not be well-formed.
unfoldable pub PositionsDiffer : Type 0
PositionsDiffer =
    (text : List ℕ) (from to : ℕ) → Boundary text from → Boundary text to → from ≤ to
    → position_at text to ≡ plus (position_at text from) (count_between text from to)

-- The position of a character boundary is the count from the text's start.
unfoldable pub PositionCounted : Type 0
PositionCounted = (text : List ℕ) (n : ℕ) → Boundary text n → position_at text n ≡ count_between text 0 n

-- Before the end of a well-formed text, the character boundaries are the offsets of the bytes outside 80..BF.
unfoldable pub BoundaryMeans : Type 0
BoundaryMeans = (text : List ℕ) (n : ℕ) → WellFormed text → n < length text → Boundary text n ↔ (is_lead (get_or text n 0) ≡ 1)

-- The count from one offset to a second, and from there to a third, is the count from the first to the third, for any bytes.
unfoldable pub CountsAdd : Type 0
CountsAdd =
    (text : List ℕ) (from mid to : ℕ) → from ≤ mid → mid ≤ to
    → plus (count_between text from mid) (count_between text mid to) ≡ count_between text from to

-- There are at most as many characters as bytes, and at most twice as many units as characters, for any bytes.
unfoldable pub CountsBounded : Type 0
CountsBounded = (s : List ℕ) → ((counted s).chars ≤ length s) × ((counted s).units ≤ 2 * (counted s).chars)

-- A slice has fewer than 2^63 bytes. So the code's sum of a position and the count after it is the true sum.
unfoldable pub CountsAddUp : Type 0
CountsAddUp =
    (text : List ℕ) (from to : ℕ) → length text < 2 ^ 63 → Boundary text from → Boundary text to → from ≤ to
    → capped_plus (position_at text from) (count_between text from to) ≡ position_at text to

-- The first and the last character of each number of bytes, and the characters next to FFFF.
unfoldable pub UnitExamples : Type 0
UnitExamples =
    map utf16_units (0 ∷ 0x7F ∷ 0x80 ∷ 0x7FF ∷ 0x800 ∷ 0xD7FF ∷ 0xE000 ∷ 0xFFFF ∷ 0x10000 ∷ 0x1F600 ∷ 0x10FFFF ∷ [])
    ≡ (1 ∷ 1 ∷ 1 ∷ 1 ∷ 1 ∷ 1 ∷ 1 ∷ 1 ∷ 2 ∷ 2 ∷ 2 ∷ [])

-- 61 E9 2764 1F600, which has 1, 2, 3 and 4 bytes for a character: the positions of its character boundaries, the count of the two
-- characters in the middle, and that of the last two.
abbrev pub example_text : List ℕ
example_text = 0x61 ∷ 0xC3 ∷ 0xA9 ∷ 0xE2 ∷ 0x9D ∷ 0xA4 ∷ 0xF0 ∷ 0x9F ∷ 0x98 ∷ 0x80 ∷ []

-- A short form for counts in the examples.
abbrev pub count : ℕ → ℕ → TextCount
count m n = record { chars = m; units = n }

unfoldable pub PositionExamples : Type 0
PositionExamples =
    (map (position_at example_text) (0 ∷ 1 ∷ 3 ∷ 6 ∷ 10 ∷ []) ≡ count 0 0 ∷ count 1 1 ∷ count 2 2 ∷ count 3 3 ∷ count 4 5 ∷ [])
    × (count_between example_text 1 6 ≡ count 2 2)
    × (count_between example_text 3 10 ≡ count 2 3)
