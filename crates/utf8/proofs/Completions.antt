-- Bytes that begin a character, and the bytes that complete them to a character, by the rows of RFC 3629, section 4.
use mathlib.Core.Path.{◌≡◌, refl, sym, ap, ◌∙◌}
use mathlib.Core.Logic.{◌⊎◌, inl, inr, ⊎_elim}
use mathlib.Core.Bool.{Bool, true, false, ◌&&◌, ◌||◌, and-false, true≢false}
use mathlib.Core.List.{List, [], ◌∷◌, ◌++◌, append-nil}
use Prim.Native.Nat.{ℕ, ◌≤◌}
use native.Mathlib.Omega.{arith}
use Rattle.base.specs.Ranges.{within}
use Rattle.utf8.specs.Rfc3629.{utf8_2, utf8_3, utf8_4, utf8_char, utf8_tail, begun_2, begun_3}
use Rattle.base.proofs.Tests.{In, both_true, either_left, either-right, either_true, le_or_lt, within_in, within_true}
use Rattle.utf8.proofs.FirstBytes.{four_F0, four_F1_F3, four_F4, three_E0, three_E1_EC, three_ED, three_EE_EF, two_C2_DF}
use Rattle.utf8.specs.Subparts.{Begins, unfinished}

-- ---- the rows, with the test of the tails as one Boolean

abbrev pub three_with : ℕ → ℕ → Bool → Bool
three_with a b t =
    (within 0xE0 0xE0 a && (within 0xA0 0xBF b && t))
    || ((within 0xE1 0xEC a && (utf8_tail b && t))
    || ((within 0xED 0xED a && (within 0x80 0x9F b && t))
    || (within 0xEE 0xEF a && (utf8_tail b && t))))

abbrev pub four_with : ℕ → ℕ → Bool → Bool
four_with a b t =
    (within 0xF0 0xF0 a && (within 0x90 0xBF b && t))
    || ((within 0xF1 0xF3 a && (utf8_tail b && t))
    || (within 0xF4 0xF4 a && (within 0x80 0x8F b && t)))

pub three_so : (a b : ℕ) (t : Bool) → three_with a b t ≡ true → t ≡ true
three_so a b true e = refl
three_so a b false e = simp and-false at e

four_so : (a b : ℕ) (t : Bool) → four_with a b t ≡ true → t ≡ true
four_so a b true e = refl
four_so a b false e = simp and-false at e

-- If the tails of a character are replaced by 80, from the third byte on, the result is still a character.
three_80 : (a b c : ℕ) → utf8_3 a b c ≡ true → utf8_3 a b 0x80 ≡ true
unfolding utf8_3
three_80 a b c e = ap (three_with a b) (sym (three_so a b (utf8_tail c) e)) ∙ e

pub four_tails : (a b c d : ℕ) → utf8_4 a b c d ≡ true → (utf8_tail c && utf8_tail d) ≡ true
unfolding utf8_4
four_tails a b c d e = four_so a b (utf8_tail c && utf8_tail d) e

four_80_80 : (a b c d : ℕ) → utf8_4 a b c d ≡ true → utf8_4 a b 0x80 0x80 ≡ true
unfolding utf8_4
four_80_80 a b c d e = ap (four_with a b) (sym (four_so a b (utf8_tail c && utf8_tail d) e)) ∙ e

four_80 : (a b c d : ℕ) → utf8_4 a b c d ≡ true → utf8_4 a b c 0x80 ≡ true
unfolding utf8_4
four_80 a b c d e =
    let t = both_true (utf8_tail c) (utf8_tail d) (four_so a b (utf8_tail c && utf8_tail d) e) in
    ap (λ (x : Bool). four_with a b (utf8_tail c && x)) (sym t.1) ∙ e

-- ---- the range of the first byte of a character of two or more bytes

pub first_2 : (a b : ℕ) → utf8_2 a b ≡ true → within 0xC2 0xF4 a ≡ true
unfolding utf8_2
first_2 a b e =
    let i = within_in 0xC2 0xDF a (both_true (within 0xC2 0xDF a) (utf8_tail b) e).0 in
    within_true 0xC2 0xF4 a (omega arith) (omega arith)

-- If a, b and the tails pass the test of a row, a is in the range.
row_first : (lo hi a : ℕ) (t : Bool) → 0xC2 ≤ lo → hi ≤ 0xF4 → (within lo hi a && t) ≡ true → within 0xC2 0xF4 a ≡ true
row_first lo hi a t p q e =
    let i = within_in lo hi a (both_true (within lo hi a) t e).0 in
    within_true 0xC2 0xF4 a (omega arith) (omega arith)

pub first_3 : (a b c : ℕ) → utf8_3 a b c ≡ true → within 0xC2 0xF4 a ≡ true
unfolding utf8_3
first_3 a b c e =
    ⊎_elim (row_first 0xE0 0xE0 a _ (omega arith) (omega arith))
    (λ o. ⊎_elim (row_first 0xE1 0xEC a _ (omega arith) (omega arith))
    (λ o. ⊎_elim (row_first 0xED 0xED a _ (omega arith) (omega arith)) (row_first 0xEE 0xEF a _ (omega arith) (omega arith))
    (either_true _ _ o)) (either_true _ _ o)) (either_true _ _ e)

pub first_4 : (a b c d : ℕ) → utf8_4 a b c d ≡ true → within 0xC2 0xF4 a ≡ true
unfolding utf8_4
first_4 a b c d e =
    ⊎_elim (row_first 0xF0 0xF0 a _ (omega arith) (omega arith))
    (λ o. ⊎_elim (row_first 0xF1 0xF3 a _ (omega arith) (omega arith)) (row_first 0xF4 0xF4 a _ (omega arith) (omega arith))
    (either_true _ _ o)) (either_true _ _ e)

-- ---- from a completion to the test

begun-by_3 : (a b c : ℕ) → utf8_3 a b c ≡ true → begun_2 a b ≡ true
unfolding begun_2
begun-by_3 a b c e = either_left (utf8_3 a b 0x80) (utf8_4 a b 0x80 0x80) (three_80 a b c e)

pub begun-by_4 : (a b c d : ℕ) → utf8_4 a b c d ≡ true → begun_2 a b ≡ true
unfolding begun_2
begun-by_4 a b c d e = either-right (utf8_3 a b 0x80) (utf8_4 a b 0x80 0x80) (four_80_80 a b c d e)

-- Bytes that become a character with more bytes after them are unfinished.
pub more_bytes : (u : List ℕ) (x : ℕ) (t : List ℕ) → utf8_char (u ++ x ∷ t) ≡ true → unfinished u ≡ true
unfolding utf8_char unfinished begun_3
more_bytes [] x t e = refl
more_bytes (a ∷ []) b [] e = first_2 a b e
more_bytes (a ∷ []) b (c ∷ []) e = first_3 a b c e
more_bytes (a ∷ []) b (c ∷ d ∷ []) e = first_4 a b c d e
more_bytes (a ∷ []) b (c ∷ d ∷ y ∷ t) e = absurd (true≢false (sym e))
more_bytes (a ∷ b ∷ []) c [] e = begun-by_3 a b c e
more_bytes (a ∷ b ∷ []) c (d ∷ []) e = begun-by_4 a b c d e
more_bytes (a ∷ b ∷ []) c (d ∷ y ∷ t) e = absurd (true≢false (sym e))
more_bytes (a ∷ b ∷ c ∷ []) d [] e = four_80 a b c d e
more_bytes (a ∷ b ∷ c ∷ []) d (y ∷ t) e = absurd (true≢false (sym e))
more_bytes (a ∷ b ∷ c ∷ d ∷ []) x t e = absurd (true≢false (sym e))
more_bytes (a ∷ b ∷ c ∷ d ∷ y ∷ u) x t e = absurd (true≢false (sym e))

-- Bytes that begin a character are a character, or unfinished.
pub begins_cases : (u : List ℕ) → Begins u → (utf8_char u ≡ true) ⊎ (unfinished u ≡ true)
begins_cases u b = go b.after b.makes
  where
    go : (t : List ℕ) → utf8_char (u ++ t) ≡ true → (utf8_char u ≡ true) ⊎ (unfinished u ≡ true)
    go [] e = inl (ap utf8_char (sym (append-nil u)) ∙ e)
    go (x ∷ t) e = inr (more_bytes u x t e)

-- ---- from the test to a completion

-- u becomes a character with the byte b and the bytes t after it.
abbrev pub GoesOn : List ℕ → Type 0
GoesOn u = (b : ℕ) × (t : List ℕ) × (utf8_char (u ++ b ∷ t) ≡ true)

one-goes-on : (a : ℕ) → In 0xC2 0xF4 a → GoesOn (a ∷ [])
unfolding utf8_char
one-goes-on a i =
    ⊎_elim (λ h. (0x80, [], two_C2_DF a 0x80 (omega arith) h))
    (λ l. ⊎_elim (λ h. (0xA0, 0x80 ∷ [], three_E0 a 0xA0 0x80 (omega arith)))
    (λ l. ⊎_elim (λ h. (0x80, 0x80 ∷ [], three_E1_EC a 0x80 0x80 (omega arith) h))
    (λ l. ⊎_elim (λ h. (0x80, 0x80 ∷ [], three_ED a 0x80 0x80 (omega arith)))
    (λ l. ⊎_elim (λ h. (0x80, 0x80 ∷ [], three_EE_EF a 0x80 0x80 (omega arith) h))
    (λ l. ⊎_elim (λ h. (0x90, 0x80 ∷ 0x80 ∷ [], four_F0 a 0x90 0x80 0x80 (omega arith)))
    (λ l. ⊎_elim (λ h. (0x80, 0x80 ∷ 0x80 ∷ [], four_F1_F3 a 0x80 0x80 0x80 (omega arith) h))
    (λ l. (0x80, 0x80 ∷ 0x80 ∷ [], four_F4 a 0x80 0x80 0x80 (omega arith)))
    (le_or_lt a 0xF3)) (le_or_lt a 0xF0)) (le_or_lt a 0xEF)) (le_or_lt a 0xED)) (le_or_lt a 0xEC)) (le_or_lt a 0xE0)) (le_or_lt a 0xDF)

pub goes_on : (u : List ℕ) → unfinished u ≡ true → (u ≡ []) ⊎ GoesOn u
unfolding utf8_char unfinished begun_2 begun_3
goes_on [] e = inl refl
goes_on (a ∷ []) e = inr (one-goes-on a (within_in 0xC2 0xF4 a e))
goes_on (a ∷ b ∷ []) e = inr (⊎_elim (λ p. (0x80, [], p)) (λ p. (0x80, 0x80 ∷ [], p)) (either_true _ _ e))
goes_on (a ∷ b ∷ c ∷ []) e = inr (0x80, [], e)
goes_on (a ∷ b ∷ c ∷ d ∷ s) e = absurd (true≢false (sym e))

-- ---- after the end of the text

-- After the end a byte counts as 0, and 0 is not the second or the third byte of a character.
pub no_second : (a : ℕ) → begun_2 a 0 ≡ false
unfolding begun_2 utf8_3 utf8_4
no_second a = simp and-false

pub no_third : (a b : ℕ) → begun_3 a b 0 ≡ false
unfolding begun_3 utf8_4
no_third a b = simp and-false
