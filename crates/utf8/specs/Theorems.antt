-- Statements about UTF-8 as defined in Rfc3629. proofs/Claims proves each of them under the same name in snake case.
use Rattle.std.specs.Prelude.{◌≡◌, ◌↔◌, ◌⊎◌, true, List, [], ◌∷◌, ◌++◌, map, ℕ, ◌≤◌, length, take, drop}
use Rattle.utf8.specs.Rfc3629.{WellFormed, utf8_char, read_char, chars, valid_up_to_of, is_scalar, all_scalar, encode, encode_all}
use Rattle.utf8.specs.Subparts.{MaximalSubpart, unfinished}
use Rattle.utf8.specs.declared.ReadChar.TheVariants.{Char, IllFormed, End}

-- Decoding the encoding of scalar values gives these values.
unfoldable pub DecodeEncode : Type 0
DecodeEncode = (vs : List ℕ) → all_scalar vs ≡ true → chars (encode_all vs) ≡ vs

-- A text is well-formed by the RFC's grammar exactly when it is the encoding of its characters. So a well-formed text has no overlong
-- form, no surrogate and no value above 10FFFF.
unfoldable pub WellFormedIffEncoding : Type 0
WellFormedIffEncoding = (s : List ℕ) → WellFormed s ↔ (encode_all (chars s) ≡ s)

-- A text is well-formed by the RFC's grammar exactly when its longest well-formed prefix is the whole text.
unfoldable pub WellFormedIffWhole : Type 0
WellFormedIffWhole = (s : List ℕ) → WellFormed s ↔ (valid_up_to_of s ≡ length s)

-- `valid_up_to_of` is the length of the longest well-formed prefix: it is at most the text's length, the prefix of that length is
-- well-formed, and no well-formed prefix is longer.
unfoldable pub LongestBeginning : Type 0
LongestBeginning =
    (s : List ℕ)
    → (valid_up_to_of s ≤ length s) × WellFormed (take (valid_up_to_of s) s)
    × ((n : ℕ) → n ≤ length s → WellFormed (take n s) → n ≤ valid_up_to_of s)

-- A character is read exactly when its value is a scalar value and the text begins with the bytes that encode it.
unfoldable pub ReadCharIff : Type 0
ReadCharIff =
    (s : List ℕ) (v w : ℕ)
    → (read_char s ≡ Char v w) ↔ ((is_scalar v ≡ true) × (length (encode v) ≡ w) × (encode v ++ drop w s ≡ s))

-- Every character of a text is a scalar value.
unfoldable pub CharsAreScalar : Type 0
CharsAreScalar = (s : List ℕ) → all_scalar (chars s) ≡ true

-- `read_char` gives the end exactly for the empty list.
unfoldable pub ReadEnd : Type 0
ReadEnd = (s : List ℕ) → (read_char s ≡ End) ↔ (s ≡ [])

-- `read_char` gives n for a bad place exactly if n is the length of its maximal subpart. `MaximalSubpart` quantifies over all bytes that
-- could complete a character (document 02, ii: "Reading one character now also answers, for a bad place, how many bytes belong to it").
unfoldable pub SubpartIsMaximal : Type 0
SubpartIsMaximal = (s : List ℕ) (n : ℕ) → (read_char s ≡ IllFormed n) ↔ MaximalSubpart s n

-- Bytes are unfinished exactly if there are none, or if they become a character with one or more bytes after them.
unfoldable pub UnfinishedMeans : Type 0
UnfinishedMeans =
    (u : List ℕ) → (unfinished u ≡ true) ↔ ((u ≡ []) ⊎ ((b : ℕ) × (t : List ℕ) × (utf8_char (u ++ b ∷ t) ≡ true)))

-- The bytes after the longest well-formed beginning are unfinished exactly if some bytes t make the text well-formed when they are
-- appended.
unfoldable pub UnfinishedRest : Type 0
UnfinishedRest = (s : List ℕ) → (unfinished (drop (valid_up_to_of s) s) ≡ true) ↔ ((t : List ℕ) × WellFormed (s ++ t))

-- The examples of RFC 3629, section 7, decoded and encoded; the forms that sections 3 and 10 exclude; the bounds of each length.
unfoldable pub Rfc3629Examples : Type 0
Rfc3629Examples =
    -- A<NOT IDENTICAL TO><ALPHA>. ; the Japanese "nihongo"; a byte order mark and U+233B4
    (map chars
    ((0x41 ∷ 0xE2 ∷ 0x89 ∷ 0xA2 ∷ 0xCE ∷ 0x91 ∷ 0x2E ∷ [])
    ∷ (0xE6 ∷ 0x97 ∷ 0xA5 ∷ 0xE6 ∷ 0x9C ∷ 0xAC ∷ 0xE8 ∷ 0xAA ∷ 0x9E ∷ [])
    ∷ (0xEF ∷ 0xBB ∷ 0xBF ∷ 0xF0 ∷ 0xA3 ∷ 0x8E ∷ 0xB4 ∷ [])
    ∷ [])
    ≡ ((0x41 ∷ 0x2262 ∷ 0x391 ∷ 0x2E ∷ []) ∷ (0x65E5 ∷ 0x672C ∷ 0x8A9E ∷ []) ∷ (0xFEFF ∷ 0x233B4 ∷ []) ∷ []))
    × (encode_all (0x41 ∷ 0x2262 ∷ 0xFEFF ∷ 0x233B4 ∷ [])
    ≡ (0x41 ∷ 0xE2 ∷ 0x89 ∷ 0xA2 ∷ 0xEF ∷ 0xBB ∷ 0xBF ∷ 0xF0 ∷ 0xA3 ∷ 0x8E ∷ 0xB4 ∷ []))
    -- overlong forms of 0 and 2F, a surrogate pair, 110000, a tail alone, a character without its last byte, no byte
    × (map read_char
    ((0xC0 ∷ 0x80 ∷ [])
    ∷ (0xE0 ∷ 0x80 ∷ 0xAF ∷ [])
    ∷ (0xED ∷ 0xA1 ∷ 0x8C ∷ 0xED ∷ 0xBE ∷ 0xB4 ∷ [])
    ∷ (0xF4 ∷ 0x90 ∷ 0x80 ∷ 0x80 ∷ [])
    ∷ (0x80 ∷ [])
    ∷ (0xE2 ∷ 0x82 ∷ [])
    ∷ []
    ∷ [])
    ≡ (IllFormed 1 ∷ IllFormed 1 ∷ IllFormed 1 ∷ IllFormed 1 ∷ IllFormed 1 ∷ IllFormed 2 ∷ End ∷ []))
    -- a second byte outside the range of its row; a character without its last bytes, at the end and before another one; bytes that never
    -- begin a character
    × (map read_char
    ((0xE0 ∷ 0x80 ∷ 0x80 ∷ [])
    ∷ (0xED ∷ 0xA0 ∷ 0x80 ∷ [])
    ∷ (0xF0 ∷ 0x80 ∷ 0x80 ∷ 0x80 ∷ [])
    ∷ (0xE2 ∷ 0x9D ∷ [])
    ∷ (0xE2 ∷ 0x41 ∷ [])
    ∷ (0xF0 ∷ 0x9F ∷ 0x98 ∷ 0x41 ∷ [])
    ∷ (0xF0 ∷ 0x9F ∷ 0x41 ∷ [])
    ∷ (0xF5 ∷ 0x80 ∷ [])
    ∷ [])
    ≡ (IllFormed 1 ∷ IllFormed 1 ∷ IllFormed 1 ∷ IllFormed 2 ∷ IllFormed 1 ∷ IllFormed 3 ∷ IllFormed 2 ∷ IllFormed 1 ∷ []))
    -- the first and the last value of each length, and the values beside the surrogates
    × (map read_char
    ((0x7F ∷ [])
    ∷ (0xC2 ∷ 0x80 ∷ [])
    ∷ (0xDF ∷ 0xBF ∷ [])
    ∷ (0xE0 ∷ 0xA0 ∷ 0x80 ∷ [])
    ∷ (0xED ∷ 0x9F ∷ 0xBF ∷ [])
    ∷ (0xEE ∷ 0x80 ∷ 0x80 ∷ [])
    ∷ (0xEF ∷ 0xBF ∷ 0xBF ∷ [])
    ∷ (0xF0 ∷ 0x90 ∷ 0x80 ∷ 0x80 ∷ [])
    ∷ (0xF4 ∷ 0x8F ∷ 0xBF ∷ 0xBF ∷ [])
    ∷ [])
    ≡ (Char 0x7F 1 ∷ Char 0x80 2 ∷ Char 0x7FF 2 ∷ Char 0x800 3 ∷ Char 0xD7FF 3 ∷ Char 0xE000 3 ∷ Char 0xFFFF 3 ∷ Char 0x10000 4 ∷ Char
    0x10FFFF 4 ∷ []))
    -- E2 82 AC E2 82: three bytes are well-formed
    × (valid_up_to_of (0xE2 ∷ 0x82 ∷ 0xAC ∷ 0xE2 ∷ 0x82 ∷ []) ≡ 3)
