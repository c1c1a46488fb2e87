-- A number and its bytes, for any number of bytes.
use mathlib.Core.Path.{◌≡◌, refl, sym, ap, ap₂, ◌∙◌}
use mathlib.Core.Bool.{Bool, true, cond}
use mathlib.Core.List.{List, [], ◌∷◌}
use Prim.Native.Nat.{ℕ, zero, suc, ◌+◌, ◌*◌, ◌/◌, ◌%◌, ◌^◌, ◌<◌, ◌≤◌}
use native.Mathlib.Nat.{add-zero, pow-suc}
use native.Mathlib.Omega.{arith}
use lib.Dec.{leb}
use lib.ListN.{drop, get_or, length, length-drop, take}
use lib.Seq.{get_or-drop, length-take-le, sets}
use borrow.Author.Tests.{le-leb, leb-true}
use Rattle.base.proofs.Tests.{and_both, both_true}
use Rattle.std.specs.Int.{from_le_bytes, to_le_bytes, w64}
use Rattle.base.specs.Output.{PutAt}
use Rattle.base.specs.Words.{all_bytes, has_room, little_endian, number, word_bytes}

-- Decoding the encoding of a number gives the number, if the bytes have room for it.
pub number-little_endian : (k x : ℕ) → x < 256 ^ k → number (little_endian k x) ≡ x
unfolding number little_endian
number-little_endian zero x h = omega arith
number-little_endian (suc k) x h =
    let h' : x < 256 ^ k * 256 = rw pow-suc at h in
    let e = number-little_endian k (x / 256) (omega arith) in
    omega arith

-- Encoding the number that bytes encode gives these bytes.
pub little_endian-number : (bs : List ℕ) → all_bytes bs ≡ true → little_endian (length bs) (number bs) ≡ bs
unfolding number little_endian all_bytes
little_endian-number [] t = refl
little_endian-number (b ∷ bs) t =
    let p = both_true (leb b 255) (all_bytes bs) t in
    let l : b ≤ 255 = leb-true b 255 p.0 in
    let low : (b + 256 * number bs) % 256 ≡ b = omega arith in
    let high : (b + 256 * number bs) / 256 ≡ number bs = omega arith in
    ap₂ (λ (x : ℕ) (y : ℕ). x ∷ little_endian (length bs) y) low high ∙ ap (λ (l : List ℕ). b ∷ l) (little_endian-number bs p.1)

-- The number of four bytes, and the number of eight as two numbers of four.
pub number_four : (xs : List ℕ) → number (take 4 xs) ≡ get_or xs 0 0 + 256 * (get_or xs 1 0 + 256 * (get_or xs 2 0 + 256 * get_or xs 3 0))
unfolding number
number_four [] = refl
number_four (a ∷ []) = refl
number_four (a ∷ b ∷ []) = refl
number_four (a ∷ b ∷ c ∷ []) = refl
number_four (a ∷ b ∷ c ∷ d ∷ xs) = omega arith

pub number_four_at : (i : ℕ) (xs : List ℕ)
    → number (take 4 (drop i xs)) ≡ get_or xs i 0 + 256 * (get_or xs (i + 1) 0 + 256 * (get_or xs (i + 2) 0 + 256 * get_or xs (i + 3) 0))
number_four_at i xs =
    let z : get_or xs (i + 0) 0 ≡ get_or xs i 0 = ap (λ (k : ℕ). get_or xs k 0) (add-zero i) in
    omega (arith, number_four (drop i xs), get_or-drop i xs 0 0, get_or-drop i xs 1 0, get_or-drop i xs 2 0, get_or-drop i xs 3 0)

pub number-eight : (xs : List ℕ) → number (take 8 xs) ≡ number (take 4 xs) + 0x100000000 * number (take 4 (drop 4 xs))
unfolding number
number-eight [] = refl
number-eight (a ∷ []) = omega arith
number-eight (a ∷ b ∷ []) = omega arith
number-eight (a ∷ b ∷ c ∷ []) = omega arith
number-eight (a ∷ b ∷ c ∷ d ∷ xs) = omega arith

-- std's number of eight bytes is their number. A byte after the end counts as 0.
pub le_number : (xs : List ℕ) → from_le_bytes w64 xs ≡ number (take 8 xs)
le_number xs = omega (arith, number-eight xs, number_four xs, number_four_at 4 xs)

-- std's bytes of a number are its eight bytes.
pub le_word : (x : ℕ) → to_le_bytes w64 x ≡ word_bytes x
unfolding word_bytes little_endian
le_word x =
    let a : x / 65536 ≡ x / 256 / 256 = omega arith in
    let b : x / 16777216 ≡ x / 256 / 256 / 256 = omega arith in
    let c : x / 4294967296 ≡ x / 256 / 256 / 256 / 256 = omega arith in
    let d : x / 1099511627776 ≡ x / 256 / 256 / 256 / 256 / 256 = omega arith in
    let e : x / 281474976710656 ≡ x / 256 / 256 / 256 / 256 / 256 / 256 = omega arith in
    let f : x / 72057594037927936 ≡ x / 256 / 256 / 256 / 256 / 256 / 256 / 256 = omega arith in
    simp (a, b, c, d, e, f)

pub length_word_bytes : (x : ℕ) → length (word_bytes x) ≡ 8
unfolding word_bytes little_endian
length_word_bytes x = refl

-- The contract of `write_word` where the eight bytes fit.
pub word_put : (o o' : List ℕ) (at x : ℕ) → at + 8 ≤ length o → o' ≡ cond (has_room o at) (sets o at (word_bytes x)) o
    → PutAt o at (word_bytes x) o' (at + 8)
word_put o o' at x h e = record {
  ends = ap (λ (n : ℕ). at + n) (sym (length_word_bytes x));
  bytes = e ∙ ap (λ (t : Bool). cond t (sets o at (word_bytes x)) o) (le-leb (at + 8) (length o) h);
}

-- A part of a list of bytes is a list of bytes.
pub all_bytes_take : (n : ℕ) (bs : List ℕ) → all_bytes bs ≡ true → all_bytes (take n bs) ≡ true
unfolding all_bytes
all_bytes_take zero bs t = refl
all_bytes_take (suc n) [] t = refl
all_bytes_take (suc n) (b ∷ bs) t =
    let p = both_true (leb b 255) (all_bytes bs) t in
    and_both (leb b 255) (all_bytes (take n bs)) p.0 (all_bytes_take n bs p.1)

pub all_bytes_drop : (n : ℕ) (bs : List ℕ) → all_bytes bs ≡ true → all_bytes (drop n bs) ≡ true
unfolding all_bytes
all_bytes_drop zero bs t = t
all_bytes_drop (suc n) [] t = refl
all_bytes_drop (suc n) (b ∷ bs) t = all_bytes_drop n bs (both_true (leb b 255) (all_bytes bs) t).1

pub bytes_all : (bs : List ℕ) → ((j : ℕ) → get_or bs j 0 ≤ 255) → all_bytes bs ≡ true
unfolding all_bytes
bytes_all [] h = refl
bytes_all (b ∷ bs) h = and_both (leb b 255) (all_bytes bs) (le-leb b 255 (h 0)) (bytes_all bs (λ j. h (suc j)))

-- Eight bytes of a list are the encoding of the number that they encode.
pub word_read : (bs : List ℕ) (i : ℕ) → all_bytes bs ≡ true → i + 8 ≤ length bs → word_bytes (number (take 8 (drop i bs)))
    ≡ take 8 (drop i bs)
unfolding word_bytes
word_read bs i t h =
    let w = take 8 (drop i bs) in
    let e : length w ≡ 8 = length-take-le 8 (drop i bs) (omega (arith, length-drop i bs)) in
    ap (λ (k : ℕ). little_endian k (number w)) (sym e) ∙ little_endian-number w (all_bytes_take 8 (drop i bs) (all_bytes_drop i bs t))
