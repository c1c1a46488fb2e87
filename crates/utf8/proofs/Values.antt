-- Laws for the proof of `decode`. They have bounds of the value of three and four bytes, where the table of RFC 3629, section 4, has
-- ranges of the second byte.
use mathlib.Core.Path.{◌≡◌, refl, sym, ap, ◌∙◌, subst}
use mathlib.Core.Bool.{Bool, true, false, cond}
use mathlib.Core.List.{List, [], ◌∷◌, ◌++◌}
use Prim.Native.Nat.{ℕ, ◌+◌, ◌*◌, ◌≤◌, ◌<◌}
use native.Mathlib.Omega.{arith}
use lib.ListN.{get_or, length, drop}
use Rattle.utf8.proofs.SecondBytes.{not_4_below}
use Rattle.utf8.proofs.FirstBytes.{not_1, not_2_above, not_3_above}
use Rattle.utf8.specs.Rfc3629.{utf8_3, utf8_4, value_2, value_3, value_4, read_four, read_char, packed, subpart, is_scalar, encode}
use Rattle.utf8.specs.declared.ReadChar.{ReadChar}
use Rattle.utf8.specs.declared.ReadChar.TheVariants.{Char, IllFormed}
use Rattle.base.proofs.Tests.{In}
use Rattle.utf8.proofs.Rows.{Tail}
use Rattle.utf8.proofs.Rows.{Row, one, two, three₁, three₂, three₃, three₄, four₁, four₂, four₃, none, row}
use Rattle.utf8.proofs.Scalars.{is_scalar_low, is_scalar-high}
use Rattle.utf8.proofs.Fronts.{read_four_at, read_char-past_end}
use Rattle.utf8.proofs.Encoding.{encode_1, encode_value_2, encode_value_3, encode_value_4}
use Rattle.utf8.proofs.Decoding.{read_char-encode}

-- ---- accepted bytes: they are the encoding of their value

reads : (v : ℕ) (bs s : List ℕ) → encode v ≡ bs → is_scalar v ≡ true → Char v (length bs) ≡ read_char (bs ++ s)
reads v bs s e p = sym (subst (λ (l : List ℕ). read_char (l ++ s) ≡ Char v (length l)) e (read_char-encode v s p))

module _ (a b c d : ℕ) where
  pub reads_1 : a ≤ 0x7F → 8 * a + 1 ≡ packed (read_four a b c d)
  unfolding read_char packed
  reads_1 h = ap packed (reads a (a ∷ []) (b ∷ c ∷ d ∷ []) (encode_1 a h) (is_scalar_low a (omega arith)))

  pub reads_2 : In 0xC2 0xDF a → Tail b → 8 * value_2 a b + 2 ≡ packed (read_four a b c d)
  unfolding read_char packed
  reads_2 p q =
      ap packed
      (reads (value_2 a b) (a ∷ b ∷ []) (c ∷ d ∷ []) (encode_value_2 a b p q) (is_scalar_low (value_2 a b) (omega arith)))

  pub reads_3 : In 0xE0 0xEF a → Tail b → Tail c → 0x800 ≤ value_3 a b c → is_scalar (value_3 a b c) ≡ true
      → 8 * value_3 a b c + 3 ≡ packed (read_four a b c d)
  unfolding read_char packed
  reads_3 p q r l i = ap packed (reads (value_3 a b c) (a ∷ b ∷ c ∷ []) (d ∷ []) (encode_value_3 a b c p q r l) i)

  pub reads_4 : In 0xF0 0xF4 a → Tail b → Tail c → Tail d → In 0x10000 0x10FFFF (value_4 a b c d)
      → 8 * value_4 a b c d + 4 ≡ packed (read_four a b c d)
  unfolding read_char packed
  reads_4 p q r t i =
      ap packed
      (reads (value_4 a b c d) (a ∷ b ∷ c ∷ d ∷ []) [] (encode_value_4 a b c d p q r t i.low)
      (is_scalar-high (value_4 a b c d) (omega arith) i.high))

-- ---- rejected bytes: they are no character of one, two, three or four bytes

abbrev pub Not1 : ℕ → Type 0
Not1 a = a ≤ 0x7F → ⊥

abbrev pub Not2 : ℕ → ℕ → Type 0
Not2 a b = In 0xC2 0xDF a → Tail b → ⊥

abbrev pub Not3 : ℕ → ℕ → ℕ → Type 0
Not3 a b c =
    In 0xE0 0xEF a → Tail b → Tail c → 0x800 ≤ value_3 a b c → (0xD800 ≤ value_3 a b c → 0xE000 ≤ value_3 a b c) → ⊥

abbrev pub Not4 : ℕ → ℕ → ℕ → ℕ → Type 0
Not4 a b c d = In 0xF0 0xF4 a → Tail b → Tail c → Tail d → In 0x10000 0x10FFFF (value_4 a b c d) → ⊥

by_row : {a b c d : ℕ} {r : ReadChar} → Row a b c d r
    → Not1 a → Not2 a b → Not3 a b c → Not4 a b c d → IllFormed (subpart a b c) ≡ r
by_row (one p) f g h k = absurd (f p.high)
by_row (two p q) f g h k = absurd (g p q)
by_row (three₁ p q r) f g h k = absurd (h (omega arith) (omega arith) r (omega arith) (λ l. omega arith))
by_row (three₂ p q r) f g h k = absurd (h (omega arith) q r (omega arith) (λ l. omega arith))
by_row (three₃ p q r) f g h k = absurd (h (omega arith) (omega arith) r (omega arith) (λ l. omega arith))
by_row (three₄ p q r) f g h k = absurd (h (omega arith) q r (omega arith) (λ l. omega arith))
by_row (four₁ p q r t) f g h k = absurd (k (omega arith) (omega arith) r t (omega arith))
by_row (four₂ p q r t) f g h k = absurd (k (omega arith) q r t (omega arith))
by_row (four₃ p q r t) f g h k = absurd (k (omega arith) (omega arith) r t (omega arith))
by_row none f g h k = refl

pub refused : (a b c d : ℕ) → Not1 a → Not2 a b → Not3 a b c → Not4 a b c d → 0 ≡ packed (read_four a b c d)
unfolding packed
refused a b c d f g h k = ap packed (by_row (row a b c d) f g h k)

-- No character begins with a byte from 80 to C1.
pub ill_formed_80_C1 : (a b c d : ℕ) → 0x80 ≤ a → a < 0xC2 → IllFormed (subpart a b c) ≡ read_four a b c d
ill_formed_80_C1 a b c d l h =
    by_row (row a b c d)
    (λ p. omega arith) (λ p q. omega arith) (λ p q r v n. omega arith) (λ p q r t v. omega arith)

-- ---- at an offset of a text

pub packed-past_end : (s : List ℕ) (at : ℕ) → length s ≤ at → 0 ≡ packed (read_char (drop at s))
unfolding packed
packed-past_end s at h = ap packed (sym (read_char-past_end s at h))

module _ (s : List ℕ) (at : ℕ) (h : at < length s) where
  abbrev a : ℕ
  a = get_or s at 0

  abbrev b : ℕ
  b = get_or s (at + 1) 0

  abbrev c : ℕ
  c = get_or s (at + 2) 0

  abbrev d : ℕ
  d = get_or s (at + 3) 0

  at_place : packed (read_four a b c d) ≡ packed (read_char (drop at s))
  at_place = ap packed (read_four_at s at h)

  pub reads_1_at : a ≤ 0x7F → 8 * a + 1 ≡ packed (read_char (drop at s))
  reads_1_at p = reads_1 a b c d p ∙ at_place

  pub reads_2_at : In 0xC2 0xDF a → Tail b → 8 * value_2 a b + 2 ≡ packed (read_char (drop at s))
  reads_2_at p q = reads_2 a b c d p q ∙ at_place

  pub reads_3_at : In 0xE0 0xEF a → Tail b → Tail c → 0x800 ≤ value_3 a b c → is_scalar (value_3 a b c) ≡ true
      → 8 * value_3 a b c + 3 ≡ packed (read_char (drop at s))
  reads_3_at p q r l i = reads_3 a b c d p q r l i ∙ at_place

  pub reads_4_at : In 0xF0 0xF4 a → Tail b → Tail c → Tail d → In 0x10000 0x10FFFF (value_4 a b c d)
      → 8 * value_4 a b c d + 4 ≡ packed (read_char (drop at s))
  reads_4_at p q r t i = reads_4 a b c d p q r t i ∙ at_place

  pub refused_at : Not1 a → Not2 a b → Not3 a b c → Not4 a b c d → 0 ≡ packed (read_char (drop at s))
  refused_at f g i k = refused a b c d f g i k ∙ at_place

  -- The packed number of numbers that equal the bytes at the offset.
  pub packed_at : {x y z t n : ℕ} → n ≡ packed (read_four x y z t) → x ≡ a → y ≡ b → z ≡ c → t ≡ d
      → n ≡ packed (read_char (drop at s))
  packed_at e p q r u = cc at_place

-- ---- the rows of three and of four bytes

row_packed : (t : Bool) (v w n : ℕ) → cond t (8 * v + w) 0 ≡ packed (cond t (Char v w) (IllFormed n))
unfolding packed
row_packed true v w n = refl
row_packed false v w n = refl

module _ (a b c d : ℕ) where
  pub packed_3 : 0xE0 ≤ a → a ≤ 0xEF → cond (utf8_3 a b c) (8 * value_3 a b c + 3) 0 ≡ packed (read_four a b c d)
  unfolding read_four
  packed_3 l h =
      simp (not_1 a (omega arith), not_2_above a b (omega arith), not_4_below a b c d (omega arith))
      (row_packed (utf8_3 a b c) (value_3 a b c) 3 (subpart a b c))

  pub packed_4 : 0xF0 ≤ a → cond (utf8_4 a b c d) (8 * value_4 a b c d + 4) 0 ≡ packed (read_four a b c d)
  unfolding read_four
  packed_4 l =
      simp (not_1 a (omega arith), not_2_above a b (omega arith), not_3_above a b c (omega arith))
      (row_packed (utf8_4 a b c d) (value_4 a b c d) 4 (subpart a b c))
