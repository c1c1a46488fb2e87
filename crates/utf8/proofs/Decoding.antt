-- The encoding of a scalar value is a character by section 4 of RFC 3629, and reading it gives the value.
use mathlib.Core.Path.{◌≡◌, ap, ◌∙◌}
use mathlib.Core.Logic.{◌⊎◌, inl, inr, ⊎_elim}
use mathlib.Core.Bool.{true}
use mathlib.Core.List.{List, ◌++◌}
use Prim.Native.Nat.{ℕ, ◌+◌, ◌*◌, ◌/◌, ◌%◌, ◌≤◌}
use native.Mathlib.Omega.{arith}
use lib.ListN.{get_or, length}
use borrow.Author.Tests.{le-leb}
use Rattle.utf8.specs.Rfc3629.{utf8_tail, utf8_1, utf8_2, utf8_3, utf8_4, utf8_char, value_4, read_char, is_scalar, encode}
use Rattle.utf8.specs.declared.ReadChar.TheVariants.{Char}
use Rattle.base.proofs.Tests.{and_both, le_or_lt, within_true}
use Rattle.utf8.proofs.FirstBytes.{
  not_1,
  not_2_above,
  not_3_above,
  two_C2_DF,
  three_E0,
  three_E1_EC,
  three_ED,
  three_EE_EF,
  four_F0,
  four_F1_F3,
  four_F4,
}
use Rattle.utf8.proofs.Fronts.{read_four_1, read_four_2, read_four_3, read_four_4}
use Rattle.utf8.proofs.Scalars.{is_scalar-bounds}
use Rattle.utf8.proofs.Encoding.{encode_1, encode_2, encode_3, encode_4}

module _ (v : ℕ) where
  -- The last byte and the bytes before it: the digits of v in base 64.
  abbrev last : ℕ
  last = 0x80 + v % 64

  abbrev last₂ : ℕ
  last₂ = 0x80 + v / 64 % 64

  abbrev last₃ : ℕ
  last₃ = 0x80 + v / 4096 % 64

  abbrev first₂ : ℕ
  first₂ = 0xC0 + v / 64

  abbrev first₃ : ℕ
  first₃ = 0xE0 + v / 4096

  abbrev first₄ : ℕ
  first₄ = 0xF0 + v / 262144

  tail-last : utf8_tail last ≡ true
  tail-last = within_true 0x80 0xBF last (omega arith) (omega arith)

  tail_last₂ : utf8_tail last₂ ≡ true
  tail_last₂ = within_true 0x80 0xBF last₂ (omega arith) (omega arith)

  tail_last₃ : utf8_tail last₃ ≡ true
  tail_last₃ = within_true 0x80 0xBF last₃ (omega arith) (omega arith)

  -- ---- the bytes pass section 4's test

  bytes_1 : v ≤ 0x7F → utf8_1 v ≡ true
  unfolding utf8_1
  bytes_1 h = simp (le-leb 0 v (omega arith), le-leb v 0x7F h)

  bytes_2 : 0x80 ≤ v → v ≤ 0x7FF → utf8_2 first₂ last ≡ true
  bytes_2 l h = two_C2_DF first₂ last (omega arith) (omega arith) ∙ tail-last

  bytes_3 : 0x800 ≤ v → v ≤ 0xFFFF → (v ≤ 0xD7FF) ⊎ (0xE000 ≤ v) → utf8_3 first₃ last₂ last ≡ true
  bytes_3 l h (inr k) = three_EE_EF first₃ last₂ last (omega arith) (omega arith) ∙ and_both _ _ tail_last₂ tail-last
  bytes_3 l h (inl k) =
      ⊎_elim (λ p. three_E0 first₃ last₂ last (omega arith)
      ∙ and_both _ _ (within_true 0xA0 0xBF last₂ (omega arith) (omega arith)) tail-last)
      (λ q. ⊎_elim (λ p. three_E1_EC first₃ last₂ last (omega arith) (omega arith) ∙ and_both _ _ tail_last₂ tail-last)
      (λ p. three_ED first₃ last₂ last (omega arith) ∙ and_both _ _ (within_true 0x80 0x9F last₂ (omega arith) (omega arith)) tail-last)
      (le_or_lt v 0xCFFF)) (le_or_lt v 0xFFF)

  bytes_4 : 0x10000 ≤ v → v ≤ 0x10FFFF → utf8_4 first₄ last₃ last₂ last ≡ true
  bytes_4 l h =
      let tails = and_both _ _ tail_last₂ tail-last in
      ⊎_elim (λ p. four_F0 first₄ last₃ last₂ last (omega arith)
      ∙ and_both _ _ (within_true 0x90 0xBF last₃ (omega arith) (omega arith)) tails)
      (λ q. ⊎_elim (λ p. four_F1_F3 first₄ last₃ last₂ last (omega arith) (omega arith) ∙ and_both _ _ tail_last₃ tails)
      (λ p. four_F4 first₄ last₃ last₂ last (omega arith) ∙ and_both _ _ (within_true 0x80 0x8F last₃ (omega arith) (omega arith)) tails)
      (le_or_lt v 0xFFFFF)) (le_or_lt v 0x3FFFF)

  -- The value of the bytes is v.
  value_4_digits : value_4 first₄ last₃ last₂ last ≡ v
  value_4_digits =
      let p : v / 4096 ≡ v / 262144 * 64 + v / 4096 % 64 = omega arith in
      let q : v / 64 ≡ v / 4096 * 64 + v / 64 % 64 = omega arith in
      let r : v ≡ v / 64 * 64 + v % 64 = omega arith in
      omega arith

  -- A case distinction by the four lengths of an encoding.
  by_length : {P : Type 0} → is_scalar v ≡ true
      → (v ≤ 0x7F → P)
      → (0x80 ≤ v → v ≤ 0x7FF → P)
      → (0x800 ≤ v → v ≤ 0xFFFF → utf8_3 first₃ last₂ last ≡ true → P)
      → (0x10000 ≤ v → v ≤ 0x10FFFF → P)
      → P
  by_length e f g h k =
      ⊎_elim f (λ l₁. ⊎_elim (g l₁) (λ l₂.
      ⊎_elim
      (λ b. h l₂ (omega arith) (bytes_3 l₂ (omega arith) (inl b)))
      (λ b. ⊎_elim (λ t. h l₂ t (bytes_3 l₂ t (inr b.0))) (λ l₃. k l₃ b.1) (le_or_lt v 0xFFFF))
      (is_scalar-bounds v e)) (le_or_lt v 0x7FF)) (le_or_lt v 0x7F)

  pub utf8_char_encode : is_scalar v ≡ true → utf8_char (encode v) ≡ true
  unfolding utf8_char
  utf8_char_encode e =
      by_length e
      (λ h. ap utf8_char (encode_1 v h) ∙ bytes_1 h)
      (λ l h. ap utf8_char (encode_2 v l h) ∙ bytes_2 l h)
      (λ l h t. ap utf8_char (encode_3 v l h) ∙ t)
      (λ l h. ap utf8_char (encode_4 v l) ∙ bytes_4 l h)

  pub read_char-encode : (s : List ℕ) → is_scalar v ≡ true → read_char (encode v ++ s) ≡ Char v (length (encode v))
  unfolding read_char
  read_char-encode s e =
      by_length e
      (λ h. rw (encode_1 v h) (read_four_1 v (get_or s 0 0) (get_or s 1 0) (get_or s 2 0) (bytes_1 h)))
      (λ l h. rw (encode_2 v l h)
      (read_four_2 first₂ last (get_or s 0 0) (get_or s 1 0) (not_1 first₂ (omega arith)) (bytes_2 l h)
      ∙ ap (λ (x : ℕ). Char x 2) (omega arith)))
      (λ l h t. rw (encode_3 v l h)
      (read_four_3 first₃ last₂ last (get_or s 0 0) (not_1 first₃ (omega arith)) (not_2_above first₃ last₂ (omega arith)) t
      ∙ ap (λ (x : ℕ). Char x 3) (omega arith)))
      (λ l h. rw (encode_4 v l)
      (read_four_4 first₄ last₃ last₂ last (not_1 first₄ (omega arith)) (not_2_above first₄ last₃ (omega arith))
      (not_3_above first₄ last₃ last₂ (omega arith)) (bytes_4 l h)
      ∙ ap (λ (x : ℕ). Char x 4) value_4_digits))
