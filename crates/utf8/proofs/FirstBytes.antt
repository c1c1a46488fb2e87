-- The tests of RFC 3629, section 4, for a known first byte: at most one of them can pass.
use mathlib.Core.Path.{◌≡◌}
use mathlib.Core.Bool.{false, ◌&&◌, or-false}
use Prim.Native.Nat.{ℕ, ◌≤◌}
use native.Mathlib.Omega.{arith}
use Rattle.base.specs.Ranges.{within}
use Rattle.base.proofs.Tests.{within-above, within-below, within_true}
use Rattle.utf8.specs.Rfc3629.{utf8_tail, utf8_1, utf8_2, utf8_3, utf8_4}

module _ (a : ℕ) where
  -- ---- the tests that fail

  pub not_1 : 0x80 ≤ a → utf8_1 a ≡ false
  unfolding utf8_1
  not_1 l = within-above 0x00 0x7F a l

  pub not_2_above : (b : ℕ) → 0xE0 ≤ a → utf8_2 a b ≡ false
  unfolding utf8_2
  not_2_above b l = simp (within-above 0xC2 0xDF a l)

  pub not_3_above : (b c : ℕ) → 0xF0 ≤ a → utf8_3 a b c ≡ false
  unfolding utf8_3
  not_3_above b c l =
      simp (
        within-above 0xE0 0xE0 a (omega arith),
        within-above 0xE1 0xEC a (omega arith),
        within-above 0xED 0xED a (omega arith),
        within-above 0xEE 0xEF a (omega arith),
      )

  -- ---- the test of the row, which depends on the bytes after the first

  pub two_C2_DF : (b : ℕ) → 0xC2 ≤ a → a ≤ 0xDF → utf8_2 a b ≡ utf8_tail b
  unfolding utf8_2
  two_C2_DF b l h = simp (within_true 0xC2 0xDF a l h)

  pub three_E0 : (b c : ℕ) → a ≡ 0xE0 → utf8_3 a b c ≡ (within 0xA0 0xBF b && utf8_tail c)
  unfolding utf8_3
  three_E0 b c e =
      simp (
        within_true 0xE0 0xE0 a (omega arith) (omega arith),
        within-below 0xE1 0xEC a (omega arith),
        within-below 0xED 0xED a (omega arith),
        within-below 0xEE 0xEF a (omega arith),
        or-false,
      )

  pub three_E1_EC : (b c : ℕ) → 0xE1 ≤ a → a ≤ 0xEC → utf8_3 a b c ≡ (utf8_tail b && utf8_tail c)
  unfolding utf8_3
  three_E1_EC b c l h =
      simp (
        within-above 0xE0 0xE0 a (omega arith),
        within_true 0xE1 0xEC a l h,
        within-below 0xED 0xED a (omega arith),
        within-below 0xEE 0xEF a (omega arith),
        or-false,
      )

  pub three_ED : (b c : ℕ) → a ≡ 0xED → utf8_3 a b c ≡ (within 0x80 0x9F b && utf8_tail c)
  unfolding utf8_3
  three_ED b c e =
      simp (
        within-above 0xE0 0xE0 a (omega arith),
        within-above 0xE1 0xEC a (omega arith),
        within_true 0xED 0xED a (omega arith) (omega arith),
        within-below 0xEE 0xEF a (omega arith),
        or-false,
      )

  pub three_EE_EF : (b c : ℕ) → 0xEE ≤ a → a ≤ 0xEF → utf8_3 a b c ≡ (utf8_tail b && utf8_tail c)
  unfolding utf8_3
  three_EE_EF b c l h =
      simp (
        within-above 0xE0 0xE0 a (omega arith),
        within-above 0xE1 0xEC a (omega arith),
        within-above 0xED 0xED a (omega arith),
        within_true 0xEE 0xEF a l h,
      )

  pub four_F0 : (b c d : ℕ) → a ≡ 0xF0 → utf8_4 a b c d ≡ (within 0x90 0xBF b && (utf8_tail c && utf8_tail d))
  unfolding utf8_4
  four_F0 b c d e =
      simp (
        within_true 0xF0 0xF0 a (omega arith) (omega arith),
        within-below 0xF1 0xF3 a (omega arith),
        within-below 0xF4 0xF4 a (omega arith),
        or-false,
      )

  pub four_F1_F3 : (b c d : ℕ) → 0xF1 ≤ a → a ≤ 0xF3 → utf8_4 a b c d ≡ (utf8_tail b && (utf8_tail c && utf8_tail d))
  unfolding utf8_4
  four_F1_F3 b c d l h =
      simp (within-above 0xF0 0xF0 a (omega arith), within_true 0xF1 0xF3 a l h, within-below 0xF4 0xF4 a (omega arith), or-false)

  pub four_F4 : (b c d : ℕ) → a ≡ 0xF4 → utf8_4 a b c d ≡ (within 0x80 0x8F b && (utf8_tail c && utf8_tail d))
  unfolding utf8_4
  four_F4 b c d e =
      simp (
        within-above 0xF0 0xF0 a (omega arith),
        within-above 0xF1 0xF3 a (omega arith),
        within_true 0xF4 0xF4 a (omega arith) (omega arith),
      )
