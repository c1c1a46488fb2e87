-- The row of RFC 3629's table (section 4) that four bytes match: `row` gives it for every result of `read_four`.
use mathlib.Core.Path.{◌≡◌, refl}
use mathlib.Core.Logic.{⊎_elim}
use mathlib.Core.Bool.{Bool, true, false, cond, ◌&&◌}
use Prim.Native.Nat.{ℕ}
use Rattle.base.specs.Ranges.{within}
use Rattle.utf8.specs.Rfc3629.{utf8_tail, utf8_1, utf8_2, utf8_3, utf8_4, value_2, value_3, value_4, read_four, subpart}
use Rattle.utf8.specs.declared.ReadChar.{ReadChar}
use Rattle.utf8.specs.declared.ReadChar.TheVariants.{Char, IllFormed}
use Rattle.base.proofs.Tests.{both_true, either_true, In, within_in}

-- A byte that may stand after the second byte of a character.
abbrev pub Tail : ℕ → Type 0
Tail b = In 0x80 0xBF b

-- The rows in the table's order, with the ranges of their bytes and the character that they encode.
pub data Row (a b c d : ℕ) : ReadChar → Type 0 where
  one : In 0x00 0x7F a → Row a b c d (Char a 1)
  two : In 0xC2 0xDF a → Tail b → Row a b c d (Char (value_2 a b) 2)
  three₁ : In 0xE0 0xE0 a → In 0xA0 0xBF b → Tail c → Row a b c d (Char (value_3 a b c) 3)
  three₂ : In 0xE1 0xEC a → Tail b → Tail c → Row a b c d (Char (value_3 a b c) 3)
  three₃ : In 0xED 0xED a → In 0x80 0x9F b → Tail c → Row a b c d (Char (value_3 a b c) 3)
  three₄ : In 0xEE 0xEF a → Tail b → Tail c → Row a b c d (Char (value_3 a b c) 3)
  four₁ : In 0xF0 0xF0 a → In 0x90 0xBF b → Tail c → Tail d → Row a b c d (Char (value_4 a b c d) 4)
  four₂ : In 0xF1 0xF3 a → Tail b → Tail c → Tail d → Row a b c d (Char (value_4 a b c d) 4)
  four₃ : In 0xF4 0xF4 a → In 0x80 0x8F b → Tail c → Tail d → Row a b c d (Char (value_4 a b c d) 4)
  none : Row a b c d (IllFormed (subpart a b c))

bytes_2 : (al ah bl bh a b : ℕ) → (within al ah a && within bl bh b) ≡ true → In al ah a × In bl bh b
bytes_2 al ah bl bh a b e =
    let p = both_true (within al ah a) (within bl bh b) e in
    (within_in al ah a p.0, within_in bl bh b p.1)

bytes_3 : (al ah bl bh a b c : ℕ) → (within al ah a && (within bl bh b && utf8_tail c)) ≡ true → In al ah a × In bl bh b × Tail c
bytes_3 al ah bl bh a b c e =
    let p = both_true (within al ah a) (within bl bh b && utf8_tail c) e in
    let q = bytes_2 bl bh 0x80 0xBF b c p.1 in
    (within_in al ah a p.0, q.0, q.1)

bytes_4 : (al ah bl bh a b c d : ℕ) → (within al ah a && (within bl bh b && (utf8_tail c && utf8_tail d))) ≡ true → In al ah a × In bl bh b
    × Tail c × Tail d
bytes_4 al ah bl bh a b c d e =
    let p = both_true (within al ah a) (within bl bh b && (utf8_tail c && utf8_tail d)) e in
    let q = bytes_3 bl bh 0x80 0xBF b c d p.1 in
    (within_in al ah a p.0, q.0, q.1, q.2)

module _ (a b c d : ℕ) where
  pub utf8_1_row : utf8_1 a ≡ true → Row a b c d (Char a 1)
  unfolding utf8_1
  utf8_1_row e = one (within_in 0x00 0x7F a e)

  pub utf8_2_row : utf8_2 a b ≡ true → Row a b c d (Char (value_2 a b) 2)
  unfolding utf8_2
  utf8_2_row e = let r = bytes_2 0xC2 0xDF 0x80 0xBF a b e in two r.0 r.1

  pub utf8_3_row : utf8_3 a b c ≡ true → Row a b c d (Char (value_3 a b c) 3)
  unfolding utf8_3
  utf8_3_row e =
      ⊎_elim (λ p. let r = bytes_3 0xE0 0xE0 0xA0 0xBF a b c p in three₁ r.0 r.1 r.2)
      (λ o. ⊎_elim (λ p. let r = bytes_3 0xE1 0xEC 0x80 0xBF a b c p in three₂ r.0 r.1 r.2)
      (λ o. ⊎_elim (λ p. let r = bytes_3 0xED 0xED 0x80 0x9F a b c p in three₃ r.0 r.1 r.2)
      (λ p. let r = bytes_3 0xEE 0xEF 0x80 0xBF a b c p in three₄ r.0 r.1 r.2)
      (either_true _ _ o)) (either_true _ _ o)) (either_true _ _ e)

  pub utf8_4_row : utf8_4 a b c d ≡ true → Row a b c d (Char (value_4 a b c d) 4)
  unfolding utf8_4
  utf8_4_row e =
      ⊎_elim (λ p. let r = bytes_4 0xF0 0xF0 0x90 0xBF a b c d p in four₁ r.0 r.1 r.2 r.3)
      (λ o. ⊎_elim (λ p. let r = bytes_4 0xF1 0xF3 0x80 0xBF a b c d p in four₂ r.0 r.1 r.2 r.3)
      (λ p. let r = bytes_4 0xF4 0xF4 0x80 0x8F a b c d p in four₃ r.0 r.1 r.2 r.3)
      (either_true _ _ o)) (either_true _ _ e)

  row-from_4 : (t : Bool) → utf8_4 a b c d ≡ t → Row a b c d (cond t (Char (value_4 a b c d) 4) (IllFormed (subpart a b c)))
  row-from_4 true e = utf8_4_row e
  row-from_4 false e = none

  row-from_3 : (t : Bool) → utf8_3 a b c ≡ t
      → Row a b c d (cond t (Char (value_3 a b c) 3) (cond (utf8_4 a b c d) (Char (value_4 a b c d) 4) (IllFormed (subpart a b c))))
  row-from_3 true e = utf8_3_row e
  row-from_3 false e = row-from_4 (utf8_4 a b c d) refl

  row-from_2 : (t : Bool) → utf8_2 a b ≡ t
      → Row a b c d (cond t (Char (value_2 a b) 2)
      (cond (utf8_3 a b c) (Char (value_3 a b c) 3) (cond (utf8_4 a b c d) (Char (value_4 a b c d) 4) (IllFormed (subpart a b c)))))
  row-from_2 true e = utf8_2_row e
  row-from_2 false e = row-from_3 (utf8_3 a b c) refl

  row-from_1 : (t : Bool) → utf8_1 a ≡ t
      → Row a b c d
      (cond t (Char a 1) (cond (utf8_2 a b) (Char (value_2 a b) 2)
      (cond (utf8_3 a b c) (Char (value_3 a b c) 3) (cond (utf8_4 a b c d) (Char (value_4 a b c d) 4) (IllFormed (subpart a b c))))))
  row-from_1 true e = utf8_1_row e
  row-from_1 false e = row-from_2 (utf8_2 a b) refl

  pub row : Row a b c d (read_four a b c d)
  unfolding read_four
  row = row-from_1 (utf8_1 a) refl
