-- UTF-8 as in RFC 3629: the grammar of section 4, the values and the encoding of section 3, and the characters of a list of bytes.
-- Document 01, "Character": a text is well-formed UTF-8 as in RFC 3629, with shortest forms, no surrogates, at most 10FFFF.
use Rattle.std.specs.Prelude.{
  ◌≡◌,
  Bool,
  true,
  false,
  cond,
  ◌&&◌,
  ◌||◌,
  List,
  [],
  ◌∷◌,
  ◌++◌,
  ℕ,
  zero,
  suc,
  ◌+◌,
  ◌*◌,
  ◌-◌,
  ◌/◌,
  ◌%◌,
  leb,
  get_or,
}
use Rattle.base.specs.Ranges.{within}
use Rattle.utf8.specs.declared.ReadChar.{ReadChar}
use Rattle.utf8.specs.declared.ReadChar.TheVariants.{Char, IllFormed, End}

-- Section 4: UTF8-tail = %x80-BF. `within lo hi` is the ABNF's %xLO-HI.
abbrev pub utf8_tail : ℕ → Bool
utf8_tail b = within 0x80 0xBF b

-- Section 4: UTF8-1 = %x00-7F
unfoldable pub utf8_1 : ℕ → Bool
utf8_1 a = within 0x00 0x7F a

-- Section 4: UTF8-2 = %xC2-DF UTF8-tail
unfoldable pub utf8_2 : ℕ → ℕ → Bool
utf8_2 a b = within 0xC2 0xDF a && utf8_tail b

-- Section 4: UTF8-3 = %xE0 %xA0-BF UTF8-tail / %xE1-EC 2( UTF8-tail ) / %xED %x80-9F UTF8-tail / %xEE-EF 2( UTF8-tail )
unfoldable pub utf8_3 : ℕ → ℕ → ℕ → Bool
utf8_3 a b c =
    (within 0xE0 0xE0 a && (within 0xA0 0xBF b && utf8_tail c))
    || ((within 0xE1 0xEC a && (utf8_tail b && utf8_tail c))
    || ((within 0xED 0xED a && (within 0x80 0x9F b && utf8_tail c))
    || (within 0xEE 0xEF a && (utf8_tail b && utf8_tail c))))

-- Section 4: UTF8-4 = %xF0 %x90-BF 2( UTF8-tail ) / %xF1-F3 3( UTF8-tail ) / %xF4 %x80-8F 2( UTF8-tail )
unfoldable pub utf8_4 : ℕ → ℕ → ℕ → ℕ → Bool
utf8_4 a b c d =
    (within 0xF0 0xF0 a && (within 0x90 0xBF b && (utf8_tail c && utf8_tail d)))
    || ((within 0xF1 0xF3 a && (utf8_tail b && (utf8_tail c && utf8_tail d)))
    || (within 0xF4 0xF4 a && (within 0x80 0x8F b && (utf8_tail c && utf8_tail d))))

-- Section 4: UTF8-char = UTF8-1 / UTF8-2 / UTF8-3 / UTF8-4, of the list of exactly its bytes.
unfoldable pub utf8_char : List ℕ → Bool
utf8_char [] = false
utf8_char (a ∷ []) = utf8_1 a
utf8_char (a ∷ b ∷ []) = utf8_2 a b
utf8_char (a ∷ b ∷ c ∷ []) = utf8_3 a b c
utf8_char (a ∷ b ∷ c ∷ d ∷ []) = utf8_4 a b c d
utf8_char (a ∷ b ∷ c ∷ d ∷ e ∷ s) = false

-- Section 4: UTF8-octets = *( UTF8-char ). Document 01 calls such a text well-formed.
pub data WellFormed : List ℕ → Type 0 where
  none : WellFormed []
  more : (bs s : List ℕ) → utf8_char bs ≡ true → WellFormed s → WellFormed (bs ++ s)

-- Section 3, the table's second row: the bits marked x of two bytes.
abbrev pub value_2 : ℕ → ℕ → ℕ
value_2 a b = (a - 0xC0) * 64 + (b - 0x80)

-- Section 3, the table's third row: the bits marked x of three bytes.
abbrev pub value_3 : ℕ → ℕ → ℕ → ℕ
value_3 a b c = ((a - 0xE0) * 64 + (b - 0x80)) * 64 + (c - 0x80)

-- Section 3, the table's fourth row: the bits marked x of four bytes.
abbrev pub value_4 : ℕ → ℕ → ℕ → ℕ → ℕ
value_4 a b c d = (((a - 0xF0) * 64 + (b - 0x80)) * 64 + (c - 0x80)) * 64 + (d - 0x80)

-- Two bytes begin a character of three or four bytes. In every row 80 can be the third byte and the fourth.
unfoldable pub begun_2 : ℕ → ℕ → Bool
begun_2 a b = utf8_3 a b 0x80 || utf8_4 a b 0x80 0x80

-- Three bytes begin a character of four bytes.
unfoldable pub begun_3 : ℕ → ℕ → ℕ → Bool
begun_3 a b c = utf8_4 a b c 0x80

-- The number of bytes of a bad place that begins with these bytes: those that begin a character, as many as possible, or one byte
-- (document 02, ii: "the maximal subpart of the Unicode Standard, chapter 3"; specs/Subparts).
unfoldable pub subpart : ℕ → ℕ → ℕ → ℕ
subpart a b c = cond (begun_3 a b c) 3 (cond (begun_2 a b) 2 1)

-- The character at the front of four bytes, or the number of bytes of the bad place there. Section 4 says which bytes are a character,
-- and section 3 gives its value.
unfoldable pub read_four : ℕ → ℕ → ℕ → ℕ → ReadChar
read_four a b c d =
    cond (utf8_1 a) (Char a 1)
    (cond (utf8_2 a b) (Char (value_2 a b) 2)
    (cond (utf8_3 a b c) (Char (value_3 a b c) 3)
    (cond (utf8_4 a b c d) (Char (value_4 a b c d) 4)
    (IllFormed (subpart a b c)))))

-- The result of reading at the front of a list of bytes. After the end of the list a byte counts as 0, which is no UTF8-tail.
unfoldable pub read_char : List ℕ → ReadChar
read_char [] = End
read_char (a ∷ s) = read_four a (get_or s 0 0) (get_or s 1 0) (get_or s 2 0)

-- The number of bytes of a bad place at the front of a list of bytes.
unfoldable pub subpart_of : List ℕ → ℕ
subpart_of [] = 0
subpart_of (a ∷ s) = subpart a (get_or s 0 0) (get_or s 1 0)

-- The number of bytes of the character read, or 0 if no character was read.
unfoldable pub char_len : ReadChar → ℕ
char_len (Char v w) = w
char_len (IllFormed n) = 0
char_len End = 0

-- The packed number of the character read: 8 times its value plus its width, which is at most 4. It is 0 if no character was read.
unfoldable pub packed : ReadChar → ℕ
packed (Char v w) = 8 * v + w
packed (IllFormed n) = 0
packed End = 0

-- A fold over the characters from the front of a list on. It stops at the end, or where no character begins (document 01, "Item").
-- `more` takes a character's value, its width and the fold of the bytes after it. `stop` is the fold where no character begins.
module _ {A : Type 0} (stop : A) (more : ℕ → ℕ → A → A) where
  -- One step of the fold, from the result of `read_char`. `rest w` is the fold of the bytes after the first w.
  unfoldable pub fold_step : ReadChar → (ℕ → A) → A
  fold_step (Char v w) rest = more v w (rest w)
  fold_step (IllFormed n) rest = stop
  fold_step End rest = stop

  -- The fold of a list whose first `skip` bytes belong to the character before it.
  unfoldable pub fold_chars : ℕ → List ℕ → A
  fold_chars skip [] = stop
  fold_chars zero (a ∷ s) = fold_step (read_char (a ∷ s)) (λ w. fold_chars (w - 1) s)
  fold_chars (suc skip) (a ∷ s) = fold_chars skip s

-- The values of the characters up to the end, or up to the first offset where no character begins.
unfoldable pub chars : List ℕ → List ℕ
chars s = fold_chars [] (λ v w r. v ∷ r) 0 s

-- The length of the longest well-formed prefix (document 01, "Turned back", number 3).
unfoldable pub valid_up_to_of : List ℕ → ℕ
valid_up_to_of s = fold_chars 0 (λ v w r. w + r) 0 s

-- A scalar value: section 3 encodes 0 to 10FFFF and prohibits D800 to DFFF, the surrogates.
unfoldable pub is_scalar : ℕ → Bool
is_scalar v = within 0 0xD7FF v || within 0xE000 0x10FFFF v

-- Every value of the list is a scalar value.
unfoldable pub all_scalar : List ℕ → Bool
all_scalar [] = true
all_scalar (v ∷ vs) = is_scalar v && all_scalar vs

-- Section 3's table, from the value to the bytes: the first row whose range contains the value.
unfoldable pub encode : ℕ → List ℕ
encode v =
    cond (leb v 0x7F) (v ∷ [])
    (cond (leb v 0x7FF) ((0xC0 + v / 64) ∷ (0x80 + v % 64) ∷ [])
    (cond (leb v 0xFFFF) ((0xE0 + v / 4096) ∷ (0x80 + v / 64 % 64) ∷ (0x80 + v % 64) ∷ [])
    ((0xF0 + v / 262144) ∷ (0x80 + v / 4096 % 64) ∷ (0x80 + v / 64 % 64) ∷ (0x80 + v % 64) ∷ [])))

-- The encodings of the values, one after the other.
unfoldable pub encode_all : List ℕ → List ℕ
encode_all [] = []
encode_all (v ∷ vs) = encode v ++ encode_all vs
