-- Bytes that are a character by section 4 of RFC 3629 are the encoding of the value that section 3 gives them.
use mathlib.Core.Path.{◌≡◌, refl, ap, ◌∙◌, subst}
use mathlib.Core.Logic.{⊎_elim}
use mathlib.Core.Bool.{true}
use mathlib.Core.List.{List, [], ◌∷◌, ◌++◌}
use Prim.Native.Nat.{ℕ, ◌+◌, ◌/◌, ◌%◌, ◌≤◌}
use native.Mathlib.Omega.{arith}
use lib.ListN.{get_or, length, drop}
use borrow.Author.Tests.{le-leb, lt-leb}
use Rattle.utf8.specs.Rfc3629.{value_2, value_3, value_4, read_char, subpart_of, is_scalar, encode}
use Rattle.utf8.specs.declared.ReadChar.{ReadChar}
use Rattle.utf8.specs.declared.ReadChar.TheVariants.{Char, IllFormed, End}
use Rattle.base.proofs.Tests.{In, le_or_lt}
use Rattle.utf8.proofs.Rows.{Tail}
use Rattle.utf8.proofs.Rows.{Row, one, two, three₁, three₂, three₃, three₄, four₁, four₂, four₃, none, row}
use Rattle.utf8.proofs.Scalars.{is_scalar_low, is_scalar-high}

-- ---- the encoding by its four lengths

pub encode_1 : (v : ℕ) → v ≤ 0x7F → encode v ≡ v ∷ []
unfolding encode
encode_1 v h = simp (le-leb v 0x7F h)

pub encode_2 : (v : ℕ) → 0x80 ≤ v → v ≤ 0x7FF → encode v ≡ (0xC0 + v / 64) ∷ (0x80 + v % 64) ∷ []
unfolding encode
encode_2 v l h = simp (lt-leb v 0x7F l, le-leb v 0x7FF h)

pub encode_3 : (v : ℕ) → 0x800 ≤ v → v ≤ 0xFFFF → encode v ≡ (0xE0 + v / 4096) ∷ (0x80 + v / 64 % 64) ∷ (0x80 + v % 64) ∷ []
unfolding encode
encode_3 v l h = simp (lt-leb v 0x7F (omega arith), lt-leb v 0x7FF (omega arith), le-leb v 0xFFFF h)

pub encode_4 : (v : ℕ) → 0x10000 ≤ v
    → encode v ≡ (0xF0 + v / 262144) ∷ (0x80 + v / 4096 % 64) ∷ (0x80 + v / 64 % 64) ∷ (0x80 + v % 64) ∷ []
unfolding encode
encode_4 v l = simp (lt-leb v 0x7F (omega arith), lt-leb v 0x7FF (omega arith), lt-leb v 0xFFFF (omega arith))

-- An encoding has one to four bytes.
pub encode-few : (v : ℕ) → (1 ≤ length (encode v)) × (length (encode v) ≤ 4)
encode-few v =
    ⊎_elim (λ h. omega (arith, ap length (encode_1 v h)))
    (λ l₁. ⊎_elim (λ h. omega (arith, ap length (encode_2 v l₁ h)))
    (λ l₂. ⊎_elim (λ h. omega (arith, ap length (encode_3 v l₂ h))) (λ l₃. omega (arith, ap length (encode_4 v l₃))) (le_or_lt v 0xFFFF))
    (le_or_lt v 0x7FF)) (le_or_lt v 0x7F)

-- ---- from the bytes to the value and back

same_2 : {a b x y : ℕ} → x ≡ a → y ≡ b → x ∷ y ∷ [] ≡ a ∷ b ∷ []
same_2 p q = cc

same_3 : {a b c x y z : ℕ} → x ≡ a → y ≡ b → z ≡ c → x ∷ y ∷ z ∷ [] ≡ a ∷ b ∷ c ∷ []
same_3 p q r = cc

same_4 : {a b c d x y z t : ℕ} → x ≡ a → y ≡ b → z ≡ c → t ≡ d → x ∷ y ∷ z ∷ t ∷ [] ≡ a ∷ b ∷ c ∷ d ∷ []
same_4 p q r s = cc

pub encode_value_2 : (a b : ℕ) → In 0xC2 0xDF a → Tail b → encode (value_2 a b) ≡ a ∷ b ∷ []
encode_value_2 a b p q = encode_2 (value_2 a b) (omega arith) (omega arith) ∙ same_2 (omega arith) (omega arith)

pub encode_value_3 : (a b c : ℕ) → In 0xE0 0xEF a → Tail b → Tail c → 0x800 ≤ value_3 a b c → encode (value_3 a b c) ≡ a ∷ b ∷ c ∷ []
encode_value_3 a b c p q r l = encode_3 (value_3 a b c) l (omega arith) ∙ same_3 (omega arith) (omega arith) (omega arith)

pub encode_value_4 : (a b c d : ℕ) → In 0xF0 0xF4 a → Tail b → Tail c → Tail d → 0x10000 ≤ value_4 a b c d → encode (value_4 a b c d)
    ≡ a ∷ b ∷ c ∷ d ∷ []
encode_value_4 a b c d p q r s l = encode_4 (value_4 a b c d) l ∙ same_4 (omega arith) (omega arith) (omega arith) (omega arith)

-- The bytes s begin with the character v: v is a scalar value, and the first w bytes are its encoding.
pub record BeginsWith (s : List ℕ) (v w : ℕ) : Type 0 where
  pub is_scalar_lem : is_scalar v ≡ true
  pub width : length (encode v) ≡ w
  pub bytes : encode v ++ drop w s ≡ s
  pub some : 1 ≤ w
  pub few : w ≤ 4

-- The fact about s that a result of `read_char` states.
abbrev pub Says : List ℕ → ReadChar → Type 0
Says s (Char v w) = BeginsWith s v w
Says s (IllFormed n) = n ≡ subpart_of s
Says s End = s ≡ []

-- A byte that is not 0 is not after the end of s.
first_1 : (s : List ℕ) → 1 ≤ get_or s 0 0 → get_or s 0 0 ∷ drop 1 s ≡ s
first_1 [] h = absurd (omega arith)
first_1 (b ∷ s) h = refl

first_2 : (s : List ℕ) → 1 ≤ get_or s 0 0 → 1 ≤ get_or s 1 0 → get_or s 0 0 ∷ get_or s 1 0 ∷ drop 2 s ≡ s
first_2 [] h k = absurd (omega arith)
first_2 (b ∷ s) h k = ap (λ (l : List ℕ). b ∷ l) (first_1 s k)

first_3 : (s : List ℕ) → 1 ≤ get_or s 0 0 → 1 ≤ get_or s 1 0 → 1 ≤ get_or s 2 0 → get_or s 0 0 ∷ get_or s 1 0 ∷ get_or s 2 0 ∷ drop 3 s ≡ s
first_3 [] h k l = absurd (omega arith)
first_3 (b ∷ s) h k l = ap (λ (l : List ℕ). b ∷ l) (first_2 s k l)

module _ (a : ℕ) (s : List ℕ) where
  begins : (v : ℕ) (bs : List ℕ) → encode v ≡ bs → is_scalar v ≡ true → 1 ≤ length bs → length bs ≤ 4 → bs ++ drop (length bs) (a ∷ s)
      ≡ a ∷ s
      → BeginsWith (a ∷ s) v (length bs)
  begins v bs e p l h f = record {
    is_scalar_lem = p;
    width = ap length e;
    bytes = ap (λ (x : List ℕ). x ++ drop (length bs) (a ∷ s)) e ∙ f;
    some = l;
    few = h;
  }

  abbrev b : ℕ
  b = get_or s 0 0

  abbrev c : ℕ
  c = get_or s 1 0

  abbrev d : ℕ
  d = get_or s 2 0

  begins_3 : In 0xE0 0xEF a → Tail b → Tail c → 0x800 ≤ value_3 a b c → is_scalar (value_3 a b c) ≡ true
      → BeginsWith (a ∷ s) (value_3 a b c) 3
  begins_3 p q r l m =
      begins (value_3 a b c) (a ∷ b ∷ c ∷ []) (encode_value_3 a b c p q r l) m (omega arith) (omega arith)
      (ap (λ (x : List ℕ). a ∷ x) (first_2 s (omega arith) (omega arith)))

  begins_4 : In 0xF0 0xF4 a → Tail b → Tail c → Tail d → 0x10000 ≤ value_4 a b c d → value_4 a b c d ≤ 0x10FFFF
      → BeginsWith (a ∷ s) (value_4 a b c d) 4
  begins_4 p q r t l h =
      begins (value_4 a b c d) (a ∷ b ∷ c ∷ d ∷ []) (encode_value_4 a b c d p q r t l) (is_scalar-high _ (omega arith) h) (omega arith)
      (omega arith)
      (ap (λ (x : List ℕ). a ∷ x) (first_3 s (omega arith) (omega arith) (omega arith)))

  -- The fact that a row states: its bytes are in the text, and are the encoding of the value.
  pub row_says : {r : ReadChar} → Row a b c d r → Says (a ∷ s) r
  unfolding subpart_of
  row_says (one p) = begins a (a ∷ []) (encode_1 a p.high) (is_scalar_low a (omega arith)) (omega arith) (omega arith) refl
  row_says (two p q) =
      begins (value_2 a b) (a ∷ b ∷ []) (encode_value_2 a b p q) (is_scalar_low _ (omega arith)) (omega arith) (omega arith)
      (ap (λ (x : List ℕ). a ∷ x) (first_1 s (omega arith)))
  row_says (three₁ p q r) = begins_3 (omega arith) (omega arith) r (omega arith) (is_scalar_low _ (omega arith))
  row_says (three₂ p q r) = begins_3 (omega arith) q r (omega arith) (is_scalar_low _ (omega arith))
  row_says (three₃ p q r) = begins_3 (omega arith) (omega arith) r (omega arith) (is_scalar_low _ (omega arith))
  row_says (three₄ p q r) = begins_3 (omega arith) q r (omega arith) (is_scalar-high _ (omega arith) (omega arith))
  row_says (four₁ p q r t) = begins_4 (omega arith) (omega arith) r t (omega arith) (omega arith)
  row_says (four₂ p q r t) = begins_4 (omega arith) q r t (omega arith) (omega arith)
  row_says (four₃ p q r t) = begins_4 (omega arith) (omega arith) r t (omega arith) (omega arith)
  row_says none = refl

pub read_char_says : (s : List ℕ) → Says s (read_char s)
unfolding read_char
read_char_says [] = refl
read_char_says (a ∷ s) = row_says a s (row a (get_or s 0 0) (get_or s 1 0) (get_or s 2 0))

pub char_begins : (s : List ℕ) (v w : ℕ) → read_char s ≡ Char v w → BeginsWith s v w
char_begins s v w e = subst (Says s) e (read_char_says s)

pub end_empty : (s : List ℕ) → read_char s ≡ End → s ≡ []
end_empty s e = subst (Says s) e (read_char_says s)

pub ill_formed_width : (s : List ℕ) (n : ℕ) → read_char s ≡ IllFormed n → n ≡ subpart_of s
ill_formed_width s n e = subst (Says s) e (read_char_says s)
