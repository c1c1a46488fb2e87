-- Numbers as bytes, lowest byte first.
use Rattle.std.specs.Prelude.{Bool, true, ◌&&◌, List, [], ◌∷◌, ◌++◌, ℕ, zero, suc, ◌+◌, ◌*◌, ◌/◌, ◌%◌, leb, drop, length, take}

-- The lowest bytes of a number, lowest byte first. The first argument is the number of bytes.
unfoldable pub little_endian : ℕ → ℕ → List ℕ
little_endian zero x = []
little_endian (suc k) x = x % 256 ∷ little_endian k (x / 256)

-- A number as eight bytes: "a policy word, a start, an end or a count is 8 bytes, lowest first".
unfoldable pub word_bytes : ℕ → List ℕ
word_bytes x = little_endian 8 x

-- Numbers as bytes, eight bytes for each.
unfoldable pub bytes_of : List ℕ → List ℕ
bytes_of [] = []
bytes_of (w ∷ ws) = word_bytes w ++ bytes_of ws

-- The number that bytes encode, lowest byte first.
unfoldable pub number : List ℕ → ℕ
number [] = 0
number (b ∷ bs) = b + 256 * number bs

-- Every number of the list is a byte.
unfoldable pub all_bytes : List ℕ → Bool
all_bytes [] = true
all_bytes (b ∷ bs) = leb b 255 && all_bytes bs

-- Eight bytes fit into the buffer from the offset `at` on.
abbrev pub has_room : List ℕ → ℕ → Bool
has_room out at = leb (at + 8) (length out)

-- Word k of bytes that are read as words of eight bytes.
abbrev pub word_at : ℕ → List ℕ → ℕ
word_at k bs = number (take 8 (drop (8 * k) bs))
