-- The result of reading at the front of a list and at an offset, by the four tests of RFC 3629, section 4.
use mathlib.Core.Path.{◌≡◌, refl, sym, ap, ap₂, ◌∙◌}
use mathlib.Core.Bool.{true, false}
use mathlib.Core.List.{List, [], ◌∷◌}
use Prim.Native.Nat.{ℕ, ◌+◌, ◌≤◌, ◌<◌}
use native.Mathlib.Nat.{add-zero}
use native.Mathlib.Omega.{arith}
use lib.ListN.{get_or, length, drop, length-drop, drop_of_length-le}
use lib.Seq.{get_or-drop}
use Rattle.utf8.specs.Rfc3629.{utf8_1, utf8_2, utf8_3, utf8_4, value_2, value_3, value_4, read_four, read_char}
use Rattle.utf8.specs.declared.ReadChar.TheVariants.{Char, End}

-- ---- the front and the first four bytes

pub read_char_nil : read_char [] ≡ End
unfolding read_char
read_char_nil = refl

pub read_char-past_end : (s : List ℕ) (at : ℕ) → length s ≤ at → read_char (drop at s) ≡ End
read_char-past_end s at h = ap read_char (drop_of_length-le s h) ∙ read_char_nil

read_char-read_four : (t : List ℕ) → 0 < length t → read_four (get_or t 0 0) (get_or t 1 0) (get_or t 2 0) (get_or t 3 0) ≡ read_char t
unfolding read_char
read_char-read_four [] h = absurd (omega arith)
read_char-read_four (a ∷ t) h = refl

first_at : (s : List ℕ) (at : ℕ) → get_or s at 0 ≡ get_or (drop at s) 0 0
first_at s at = ap (λ (n : ℕ). get_or s n 0) (sym (add-zero at)) ∙ sym (get_or-drop at s 0 0)

-- Before the end of the text, reading at an offset is reading the four bytes there.
pub read_four_at : (s : List ℕ) (at : ℕ) → at < length s
    → read_four (get_or s at 0) (get_or s (at + 1) 0) (get_or s (at + 2) 0) (get_or s (at + 3) 0) ≡ read_char (drop at s)
read_four_at s at h =
    let t = drop at s in
    ap₂ (λ (x y : ℕ). read_four x y (get_or s (at + 2) 0) (get_or s (at + 3) 0)) (first_at s at) (sym (get_or-drop at s 1 0))
    ∙ ap₂ (λ (x y : ℕ). read_four (get_or t 0 0) (get_or t 1 0) x y) (sym (get_or-drop at s 2 0)) (sym (get_or-drop at s 3 0))
    ∙ read_char-read_four t (omega (arith, length-drop at s))

-- ---- the four tests and the answer

module _ (a b c d : ℕ) where
  pub read_four_1 : utf8_1 a ≡ true → read_four a b c d ≡ Char a 1
  unfolding read_four
  read_four_1 p = simp p

  pub read_four_2 : utf8_1 a ≡ false → utf8_2 a b ≡ true → read_four a b c d ≡ Char (value_2 a b) 2
  unfolding read_four
  read_four_2 p q = simp (p, q)

  pub read_four_3 : utf8_1 a ≡ false → utf8_2 a b ≡ false → utf8_3 a b c ≡ true → read_four a b c d ≡ Char (value_3 a b c) 3
  unfolding read_four
  read_four_3 p q r = simp (p, q, r)

  pub read_four_4 : utf8_1 a ≡ false → utf8_2 a b ≡ false → utf8_3 a b c ≡ false → utf8_4 a b c d ≡ true
      → read_four a b c d ≡ Char (value_4 a b c d) 4
  unfolding read_four
  read_four_4 p q r u = simp (p, q, r, u)
