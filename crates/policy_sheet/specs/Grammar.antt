-- The form of a policy sheet (document 02, vi), as types over bytes and what is read of them. By `OnlyReading` of specs/Theorems.antt a
-- sheet has one reading.
use Rattle.std.specs.Prelude.{◌≡◌, Bool, true, false, ◌||◌, List, [], ◌∷◌, ◌++◌, ℕ, suc, ◌+◌, ◌*◌, ◌-◌, ◌<◌, eqb, length}
use Rattle.base.specs.Ranges.{within}

-- A code point in a sheet: the offset of its first digit, and its value.
pub record Point : Type 0 where
  pub at : ℕ
  pub value : ℕ

-- A piece: a single code point or a range, and the number of its line, from 0 on. A single code point is both the first and the last.
pub record Piece : Type 0 where
  pub line : ℕ
  pub first : Point
  pub last : Point

-- ".. upper-case hexadecimal digits": a byte that is a digit, 0 to 9 or A to F, and the value of the digit.
pub data HexDigit : ℕ → ℕ → Type 0 where
  decimal : {b : ℕ} → within 0x30 0x39 b ≡ true → HexDigit b (b - 0x30)
  letter : {b : ℕ} → within 0x41 0x46 b ≡ true → HexDigit b (b - 0x37)

-- Digits, their number, and their value.
pub data Digits : List ℕ → ℕ → ℕ → Type 0 where
  no_digits : Digits [] 0 0
  digits_and : {s : List ℕ} {b k v d : ℕ} → Digits s k v → HexDigit b d → Digits (s ++ (b ∷ [])) (suc k) (v * 16 + d)

-- "two or four to six": the numbers of digits that a code point may have.
unfoldable pub allowed_digits : ℕ → Bool
allowed_digits k = eqb k 2 || within 4 6 k

-- "A code point has two or four to six upper-case hexadecimal digits, of any value": the bytes of a code point, and its value.
pub data CodePoint : List ℕ → ℕ → Type 0 where
  of_digits : {s : List ℕ} {k v : ℕ} → Digits s k v → allowed_digits k ≡ true → CodePoint s v

-- ".. code points and ranges such as `2764` or `30-39`": the bytes of a piece in line k that starts at an offset.
pub data PieceAt (k at : ℕ) : List ℕ → Piece → Type 0 where
  single : {s : List ℕ} {v : ℕ} → CodePoint s v
      → PieceAt k at s (record { line = k; first = record { at = at; value = v }; last = record { at = at; value = v } })
  range : {s t : List ℕ} {v w : ℕ} → CodePoint s v → CodePoint t w
      → PieceAt k at (s ++ (0x2D ∷ t))
      (record { line = k; first = record { at = at; value = v }; last = record { at = at + length s + 1; value = w } })

-- ".. comma between, no blanks": the pieces of line k, from an offset on.
pub data Pieces (k at : ℕ) : List ℕ → List Piece → Type 0 where
  one_piece : {s : List ℕ} {x : Piece} → PieceAt k at s x → Pieces k at s (x ∷ [])
  pieces_and : {s t : List ℕ} {xs : List Piece} {x : Piece} → Pieces k at s xs → PieceAt k (at + length s + 1) t x
      → Pieces k at (s ++ (0x2C ∷ t)) (xs ++ (x ∷ []))

-- "A line is empty, or code points and ranges": line k without the byte that ends it.
pub data Line (k at : ℕ) : List ℕ → List Piece → Type 0 where
  empty_line : Line k at [] []
  full_line : {s : List ℕ} {xs : List Piece} → Pieces k at s xs → Line k at s xs

-- ".. lines, each ended by 0A": the first k lines.
pub data Lines : ℕ → List ℕ → List Piece → Type 0 where
  no_lines : Lines 0 [] []
  lines_and : {k : ℕ} {s t : List ℕ} {xs ys : List Piece} → Lines k s xs → Line k (length s) t ys
      → Lines (suc k) (s ++ (t ++ (0x0A ∷ []))) (xs ++ ys)

-- "A sheet has four lines": the bytes of a sheet, and its pieces in order.
abbrev pub Sheet : List ℕ → List Piece → Type 0
Sheet s xs = Lines 4 s xs

-- The bytes follow the form of a sheet ("a range running down passes this test").
abbrev pub IsSheet : List ℕ → Type 0
IsSheet s = (xs : List Piece) × Sheet s xs

-- Some sheet begins with the bytes: all bytes that could follow are quantified.
abbrev pub Begins : List ℕ → Type 0
Begins s = (t : List ℕ) × IsSheet (s ++ t)

-- ---- refusal 11

-- The bytes of a line before a piece: none, or pieces and a comma. The Boolean says that the piece is the first of its line.
pub data Front (k at : ℕ) : List ℕ → Bool → List Piece → Type 0 where
  line_start : Front k at [] true []
  after_comma : {s : List ℕ} {xs : List Piece} → Pieces k at s xs → Front k at (s ++ (0x2C ∷ [])) false xs

-- ".. if a comma or 0A closes it": the bytes that close a piece.
pub data Closer : ℕ → Type 0 where
  comma_closes : Closer 0x2C
  newline_closes : Closer 0x0A

-- "A range whose end is below its start is 11, at its start, if a comma or 0A closes it". The range is in one of the four lines. The bytes
-- before it have the form of a sheet, and any bytes may follow.
pub record DescendingRange (s : List ℕ) (n : ℕ) : Type 0 where
  pub earlier : List ℕ
  pub front_text : List ℕ
  pub range_text : List ℕ
  pub later : List ℕ
  pub line : ℕ
  pub closer : ℕ
  pub fresh : Bool
  pub xs : List Piece
  pub ys : List Piece
  pub piece : Piece
  pub lines_before : Lines line earlier xs
  pub in_sheet : line < 4
  pub front : Front line (length earlier) front_text fresh ys
  pub here : PieceAt line (length earlier + length front_text) range_text piece
  pub closed : Closer closer
  pub text : s ≡ earlier ++ (front_text ++ (range_text ++ (closer ∷ later)))
  pub descends : piece.last.value < piece.first.value
  pub starts : piece.first.at ≡ n
