-- ASCII bytes in a word of eight bytes. A byte is ASCII where its highest bit is 0. So the lowest 1 among these highest bits gives the
-- number of ASCII bytes before the first other byte.
use mathlib.Core.Path.{◌≡◌, sym, ap, ap₂, ◌∙◌, subst}
use mathlib.Core.Logic.{⊎_elim}
use mathlib.Core.Bool.{true, false, true≢false}
use mathlib.Core.List.{List}
use Prim.Native.Nat.{ℕ, zero, suc, ◌+◌, ◌-◌, ◌*◌, ◌/◌, ◌%◌, ◌^◌, ◌≤◌, ◌<◌}
use native.Mathlib.Nat.{add-zero, div-one}
use native.Mathlib.Omega.{arith}
use lib.Bits.{bit_and, and_le_r}
use lib.Count.{count_trailing_zeros, trailing_le}
use lib.ListN.{drop, get_or, take}
use lib.Seq.{get_or-drop}
use borrow.Author.Tests.{eqb-false, eqb-true, eq-eqb}
use Rattle.base.specs.Bits.{one}
use Rattle.base.specs.Words.{number}
use Rattle.base.proofs.Bits.{and_bit, and_no_bit, low_bits, shifted_bit, trailing_all, trailing_bit, trailing_one, zero_one}
use Rattle.base.proofs.ByteBits.{bit_of_bytes}
use Rattle.base.proofs.Tests.{le_or_lt}
use Rattle.ascii_runs.specs.Ascii.{AllUpTo}

-- The word that has a 1 at the highest bit of each of its n bytes.
high_bits : ℕ → ℕ
high_bits zero = 0
high_bits (suc n) = 0x80 + 256 * high_bits n

high_bit : (n i : ℕ) → i < n → one (i * 8 + 7) (high_bits n) ≡ true
unfolding high_bits one
high_bit zero i h = absurd (omega arith)
high_bit (suc n) zero h = eq-eqb (high_bits (suc n) / 2 ^ 7 % 2) 1 (omega arith)
high_bit (suc n) (suc i) h =
    let w = high_bits (suc n) in
    let place : suc i * 8 + 7 ≡ 8 + (i * 8 + 7) = omega arith in
    let rest : w / 2 ^ 8 ≡ high_bits n = omega arith in
    ap (λ (x : ℕ). one x w) place ∙ shifted_bit 8 (i * 8 + 7) w ∙ ap (one (i * 8 + 7)) rest ∙ high_bit n i (omega arith)

-- `high_bits` has a 0 at every other bit.
high_zero : (n i : ℕ) → i % 8 < 7 → one i (high_bits n) ≡ false
unfolding high_bits count_trailing_zeros
high_zero zero i h = zero_one i
high_zero (suc n) i h = ⊎_elim (λ l. later l (high_zero n (i - 8) (omega arith))) here (le_or_lt 8 i)
  where
    w : ℕ
    w = high_bits (suc n)

    here : i < 8 → one i w ≡ false
    here l =
        let split : w ≡ 0x80 + high_bits n * 2 ^ 8 = omega arith in
        ap (one i) split ∙ low_bits 8 i 0x80 (high_bits n) l ∙ trailing_bit 8 0x80 i (omega arith)

    later : 8 ≤ i → one (i - 8) (high_bits n) ≡ false → one i w ≡ false
    later l e =
        let place : i ≡ 8 + (i - 8) = omega arith in
        let rest : w / 2 ^ 8 ≡ high_bits n = omega arith in
        ap (λ (x : ℕ). one x w) place ∙ shifted_bit 8 (i - 8) w ∙ ap (one (i - 8)) rest ∙ e

ascii_byte : (b : ℕ) → b < 256 → one 7 b ≡ false → b ≤ 0x7F
unfolding one
ascii_byte b h e = omega (arith, eqb-false (b / 2 ^ 7 % 2) 1 e)

other_byte : (b : ℕ) → one 7 b ≡ true → 0x7F < b
unfolding one
other_byte b e = omega (arith, eqb-true (b / 2 ^ 7 % 2) 1 e)

-- The highest bits of the bytes of a word.
abbrev pub high : ℕ → ℕ
high w = bit_and w 0x8080808080808080

module _ (s : List ℕ) (at : ℕ) {w : ℕ} (e : w ≡ number (take 8 (drop at s))) (f : (j : ℕ) → get_or s j 0 < 256) where
  byte_bit : (i : ℕ) → i < 8 → one 7 (get_or (drop at s) i 0) ≡ one (i * 8 + 7) (high w)
  unfolding high_bits
  byte_bit i h =
      let bytes : (j : ℕ) → get_or (drop at s) j 0 < 256 = (λ j. omega (arith, get_or-drop at s j 0, f (at + j))) in
      let top : 7 ≡ (i * 8 + 7) % 8 = omega arith in
      let byte : i ≡ (i * 8 + 7) / 8 = omega arith in
      ap₂ (λ (x y : ℕ). one x (get_or (drop at s) y 0)) top byte
      ∙ sym (bit_of_bytes 8 (i * 8 + 7) (drop at s) bytes (omega arith)) ∙ ap (one (i * 8 + 7)) (sym e)
      ∙ sym (and_bit (i * 8 + 7) w 0x8080808080808080 (high_bit 8 i h))

  -- After the first p bytes of the word, n bytes are ASCII.
  pub low_bytes : (p n : ℕ) → p + n ≤ 8 → n ≤ count_trailing_zeros 64 (high w / 2 ^ (8 * p)) / 8
      → AllUpTo 0x7F s (at + p) n
  low_bytes p n h t = record {
    each = λ k l u.
        let i = k - at in
        let j = (i - p) * 8 + 7 in
        let place : i * 8 + 7 ≡ 8 * p + j = omega arith in
        let here : at + i ≡ k = omega arith in
        let clear =
        byte_bit i (omega arith) ∙ ap (λ (x : ℕ). one x (high w)) place ∙ shifted_bit (8 * p) j (high w)
        ∙ trailing_bit 64 (high w / 2 ^ (8 * p)) j (omega arith) in
        let same = get_or-drop at s i 0 ∙ ap (λ (x : ℕ). get_or s x 0) here in
        omega (arith, same, ascii_byte (get_or (drop at s) i 0) (omega (arith, same, f k)) clear);
  }

  -- The same for p = 0.
  pub front_bytes : (n : ℕ) → n ≤ count_trailing_zeros 64 (high w) / 8 → AllUpTo 0x7F s at n
  front_bytes n h =
      subst (λ (k : ℕ). AllUpTo 0x7F s k n) (add-zero at)
      (low_bytes 0 n (omega (arith, trailing_le 64 (high w))) (omega (arith, ap (count_trailing_zeros 64) (div-one (high w)))))

  -- The byte after these is not ASCII, if it belongs to the word.
  pub next-byte : (p : ℕ) → p + count_trailing_zeros 64 (high w / 2 ^ (8 * p)) / 8 < 8
      → 0x7F < get_or s (at + p + count_trailing_zeros 64 (high w / 2 ^ (8 * p)) / 8) 0
  unfolding high_bits
  next-byte p h =
      let t = count_trailing_zeros 64 (high w / 2 ^ (8 * p)) in
      let i = p + t / 8 in
      let set : one (8 * p + t) (high w) ≡ true =
      shifted_bit (8 * p) t (high w) ∙ trailing_one 64 (high w / 2 ^ (8 * p)) (omega arith) in
      let not_set : (8 * p + t) % 8 < 7 → one (8 * p + t) (high w) ≡ false =
      λ l. and_no_bit (8 * p + t) w 0x8080808080808080 (high_zero 8 (8 * p + t) l) in
      let seven : 7 ≤ (8 * p + t) % 8 =
      ⊎_elim (λ l. l) (λ l. absurd (true≢false (sym set ∙ not_set l))) (le_or_lt 7 ((8 * p + t) % 8)) in
      let place : i * 8 + 7 ≡ 8 * p + t = omega arith in
      let here : at + i ≡ at + p + t / 8 = omega arith in
      let same = get_or-drop at s i 0 ∙ ap (λ (x : ℕ). get_or s x 0) here in
      omega (arith, same, other_byte (get_or (drop at s) i 0) (byte_bit i h ∙ ap (λ (x : ℕ). one x (high w)) place ∙ set))

  -- The same for p = 0.
  pub front-next : (high w ≡ 0 → ⊥) → 0x7F < get_or s (at + count_trailing_zeros 64 (high w) / 8) 0
  front-next n =
      let t = count_trailing_zeros 64 (high w) in
      let some : t < 64 =
      ⊎_elim (λ l. absurd (n (trailing_all 64 (high w) (omega (arith, and_le_r w 0x8080808080808080)) l))) (λ l. l) (le_or_lt 64 t) in
      let whole : count_trailing_zeros 64 (high w / 2 ^ (8 * 0)) ≡ t = ap (count_trailing_zeros 64) (div-one (high w)) in
      let place : at + 0 + count_trailing_zeros 64 (high w / 2 ^ (8 * 0)) / 8 ≡ at + t / 8 = omega arith in
      subst (λ (k : ℕ). 0x7F < get_or s k 0) place (next-byte 0 (omega arith))
