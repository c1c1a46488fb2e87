-- The laws that the proof of `bad_width` uses: the width by three tests.
use mathlib.Core.Path.{◌≡◌, refl, sym, ap, ap₂, ◌∙◌}
use mathlib.Core.Logic.{⊎_elim}
use mathlib.Core.Bool.{Bool, true, false, cond, ◌&&◌, true≢false}
use mathlib.Core.List.{List, [], ◌∷◌}
use Prim.Native.Nat.{ℕ, ◌≤◌, ◌<◌}
use native.Mathlib.Omega.{arith}
use lib.ListN.{get_or, length}
use Rattle.base.specs.Ranges.{within}
use Rattle.utf8.specs.Rfc3629.{utf8_3, utf8_4, utf8_tail, begun_2, begun_3, subpart, subpart_of}
use Rattle.base.proofs.Tests.{both_true, either_true, fails, within-below}
use Rattle.utf8.proofs.FirstBytes.{not_3_above}
use Rattle.utf8.proofs.Completions.{begun-by_4, four_tails, four_with}

module _ (a b : ℕ) where
  pub not_4_below : (c d : ℕ) → a < 0xF0 → utf8_4 a b c d ≡ false
  unfolding utf8_4
  not_4_below c d h = simp (within-below 0xF0 0xF0 a h, within-below 0xF1 0xF3 a (omega arith), within-below 0xF4 0xF4 a (omega arith))

  width_is : (c : ℕ) {x y : Bool} → begun_3 a b c ≡ x → begun_2 a b ≡ y → subpart a b c ≡ cond x 3 (cond y 2 1)
  unfolding subpart
  width_is c p q = ap₂ (λ (x y : Bool). cond x 3 (cond y 2 1)) p q

  pub width_1 : (c : ℕ) → begun_2 a b ≡ false → subpart a b c ≡ 1
  unfolding begun_3
  width_1 c e = width_is c (fails (begun_3 a b c) (λ t. true≢false (sym (begun-by_4 a b c 0x80 t) ∙ e))) e

  pub width_2_low : (c : ℕ) → begun_2 a b ≡ true → a < 0xF0 → subpart a b c ≡ 2
  unfolding begun_3
  width_2_low c e h = width_is c (not_4_below c 0x80 h) e

  pub width_2_tail : (c : ℕ) → begun_2 a b ≡ true → within 0x80 0xBF c ≡ false → subpart a b c ≡ 2
  unfolding begun_3
  width_2_tail c e h =
      width_is c (fails (begun_3 a b c)
      (λ t. true≢false (sym (both_true (utf8_tail c) (utf8_tail 0x80) (four_tails a b c 0x80 t)).0 ∙ h))) e

  four_begun : 0xF0 ≤ a → begun_2 a b ≡ true → utf8_4 a b 0x80 0x80 ≡ true
  unfolding begun_2
  four_begun h e =
      ⊎_elim (λ p. absurd (true≢false (sym p ∙ not_3_above a b 0x80 h))) (λ p. p) (either_true (utf8_3 a b 0x80) (utf8_4 a b 0x80 0x80) e)

  pub width_3 : (c : ℕ) → begun_2 a b ≡ true → 0xF0 ≤ a → within 0x80 0xBF c ≡ true → subpart a b c ≡ 3
  unfolding begun_3 utf8_4
  width_3 c e h t = width_is c (ap (λ (x : Bool). four_with a b (x && true)) t ∙ four_begun h e) e

-- The first bytes of a text that has them.
pub width-front : (t : List ℕ) → 0 < length t → subpart (get_or t 0 0) (get_or t 1 0) (get_or t 2 0) ≡ subpart_of t
unfolding subpart_of
width-front [] h = absurd (omega arith)
width-front (a ∷ t) h = refl

-- The width of a bad place, from its bytes read one by one.
pub width_at : (t : List ℕ) {a b c n : ℕ} → 0 < length t → a ≡ get_or t 0 0 → b ≡ get_or t 1 0 → c ≡ get_or t 2 0 → subpart a b c ≡ n
    → n ≡ subpart_of t
width_at t h p q r e = cc (width-front t h)
