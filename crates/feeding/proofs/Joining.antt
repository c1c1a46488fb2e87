-- The unfinished bytes and the piece after them.
use mathlib.Core.Path.{◌≡◌, refl, ap, ap₂, sym, ◌∙◌}
use mathlib.Core.Bool.{Bool, true, false, true≢false}
use mathlib.Core.List.{List, [], ◌∷◌, ◌++◌}
use Prim.Native.Nat.{ℕ, zero, suc, ◌+◌, ◌-◌, ◌*◌, ◌/◌, ◌%◌, ◌≤◌, ◌<◌}
use native.Mathlib.Omega.{arith}
use lib.Dec.{leb}
use lib.ListN.{drop, get_or, length, length-append, length-drop}
use lib.Seq.{get_or-append-add, get_or-drop}
use borrow.Author.Tests.{le-leb}
use Rattle.base.specs.Words.{all_bytes, little_endian, number}
use Rattle.base.proofs.Tests.{and_both, both_true}
use Rattle.base.proofs.Words.{all_bytes_drop, little_endian-number}
use Rattle.utf8.specs.Rfc3629.{packed, read_char, read_four}
use Rattle.utf8.proofs.Fronts.{read_char-past_end, read_four_at}
use Rattle.utf8.specs.Subparts.{unfinished}
use Rattle.feeding.specs.Helpers.{LeftAt}
use Rattle.feeding.proofs.Ending.{length_bytes_of}

module _ (x : ℕ) (b : List ℕ) where
  pub byte-after : (n k : ℕ) → n ≤ k → get_or (drop 0 b) (k - n) 0 ≡ get_or (little_endian n x ++ b) k 0
  byte-after n k h =
      let e : length (little_endian n x) + (k - n) ≡ k = omega (arith, length_bytes_of n x) in
      sym (get_or-append-add (little_endian n x) b (k - n) 0) ∙ ap (λ (j : ℕ). get_or (little_endian n x ++ b) j 0) e

  pub byte_0 : (n k : ℕ) → k < n → k ≡ 0 → x % 256 ≡ get_or (little_endian n x ++ b) k 0
  unfolding little_endian
  byte_0 zero k h e = absurd (omega arith)
  byte_0 (suc n) k h e = ap (λ (j : ℕ). get_or (little_endian (suc n) x ++ b) j 0) (sym e)

  pub byte_1 : (n k : ℕ) → k < n → k ≡ 1 → x / 256 % 256 ≡ get_or (little_endian n x ++ b) k 0
  unfolding little_endian
  byte_1 zero k h e = absurd (omega arith)
  byte_1 (suc zero) k h e = absurd (omega arith)
  byte_1 (suc (suc n)) k h e = ap (λ (j : ℕ). get_or (little_endian (suc (suc n)) x ++ b) j 0) (sym e)

  pub byte_2 : (n k : ℕ) → k < n → k ≡ 2 → x / 256 / 256 % 256 ≡ get_or (little_endian n x ++ b) k 0
  unfolding little_endian
  byte_2 zero k h e = absurd (omega arith)
  byte_2 (suc zero) k h e = absurd (omega arith)
  byte_2 (suc (suc zero)) k h e = absurd (omega arith)
  byte_2 (suc (suc (suc n))) k h e = ap (λ (j : ℕ). get_or (little_endian (suc (suc (suc n))) x ++ b) j 0) (sym e)

pub joined_length : (n x : ℕ) (b : List ℕ) → length (little_endian n x ++ b) ≡ n + length b
joined_length n x b = omega (arith, length-append (little_endian n x) b, length_bytes_of n x)

-- ---- a character

module _ (u : List ℕ) (k : ℕ) where
  pub char-none : length u ≤ k → 0 ≡ packed (read_char (drop k u))
  unfolding packed
  char-none h = ap packed (sym (read_char-past_end u k h))

  pub char_four : {a b c d r : ℕ} → k < length u → a ≡ get_or u k 0 → b ≡ get_or u (k + 1) 0 → c ≡ get_or u (k + 2) 0
      → d ≡ get_or u (k + 3) 0
      → r ≡ packed (read_char (drop 0 (a ∷ b ∷ c ∷ d ∷ []))) → r ≡ packed (read_char (drop k u))
  unfolding read_char
  char_four {c = c} {d = d} h p q s t e =
      e ∙ ap₂ (λ (y z : ℕ). packed (read_four y z c d)) p q
      ∙ ap₂ (λ (y z : ℕ). packed (read_four (get_or u k 0) (get_or u (k + 1) 0) y z)) s t
      ∙ ap packed (read_four_at u k h)

-- ---- the bytes that are left

bytes_append : (a b : List ℕ) → all_bytes a ≡ true → all_bytes b ≡ true → all_bytes (a ++ b) ≡ true
unfolding all_bytes
bytes_append [] b p q = q
bytes_append (x ∷ a) b p q =
    let r = both_true (leb x 255) (all_bytes a) p in
    and_both (leb x 255) (all_bytes (a ++ b)) r.0 (bytes_append a b r.1 q)

bytes_little : (n x : ℕ) → all_bytes (little_endian n x) ≡ true
unfolding all_bytes little_endian
bytes_little zero x = refl
bytes_little (suc n) x =
    and_both (leb (x % 256) 255) (all_bytes (little_endian n (x / 256))) (le-leb (x % 256) 255 (omega arith)) (bytes_little n (x / 256))

number-three : (l : List ℕ) → length l ≤ 3 → number l ≡ get_or l 0 0 + 256 * (get_or l 1 0 + 256 * get_or l 2 0)
unfolding number
number-three [] h = omega arith
number-three (a ∷ []) h = omega arith
number-three (a ∷ b ∷ []) h = omega arith
number-three (a ∷ b ∷ c ∷ []) h = omega arith
number-three (a ∷ b ∷ c ∷ d ∷ l) h = absurd (omega arith)

unfinished-short : (l : List ℕ) → 3 < length l → unfinished l ≡ false
unfolding unfinished
unfinished-short [] h = absurd (omega arith)
unfinished-short (a ∷ []) h = absurd (omega arith)
unfinished-short (a ∷ b ∷ []) h = absurd (omega arith)
unfinished-short (a ∷ b ∷ c ∷ []) h = absurd (omega arith)
unfinished-short (a ∷ b ∷ c ∷ d ∷ l) h = refl

module _ (n x : ℕ) (b : List ℕ) (at : ℕ) (fits : at ≤ n + length b) where
  abbrev U : List ℕ
  U = little_endian n x ++ b

  left_length : length (drop at U) ≡ (n + length b) - at
  left_length = omega (arith, length-drop at U, joined_length n x b)

  -- No bytes are left.
  pub left-none : (n + length b) - at ≡ 0 → LeftAt U at (record { good = true; len = 0; bytes = 0 })
  unfolding unfinished number
  left-none h =
      let e = empty_of (drop at U) (left_length ∙ h) in
      record { good = ap unfinished (sym e); many = λ t. ap length (sym e); bytes = λ t. ap number (sym e) }
    where
      empty_of : (l : List ℕ) → length l ≡ 0 → l ≡ []
      empty_of [] z = refl
      empty_of (a ∷ l) z = absurd (omega arith)

  pub left-many : 3 < (n + length b) - at → LeftAt U at (record { good = false; len = 0; bytes = 0 })
  left-many h = record {
    good = sym (unfinished-short (drop at U) (omega (arith, left_length)));
    many = λ e. absurd (true≢false (sym e));
    bytes = λ e. absurd (true≢false (sym e));
  }

  pub left-few : {p q d r : ℕ} {g : Bool} → (n + length b) - at ≤ 3 → all_bytes b ≡ true → p ≡ get_or U at 0 → q ≡ get_or U (at + 1) 0 → d
      ≡ get_or U (at + 2) 0
      → r ≡ p + 256 * (q + 256 * d) → g ≡ unfinished (little_endian ((n + length b) - at) r)
      → LeftAt U at (record { good = g; len = (n + length b) - at; bytes = r })
  left-few {p} {q} {d} {r} h k e f t s g =
      let L = drop at U in
      let z : get_or U (at + 0) 0 ≡ get_or U at 0 = ap (λ (j : ℕ). get_or U j 0) (plus_zero at) in
      let m : number L ≡ r = omega (
        arith,
        number-three L (omega (arith, left_length)),
        get_or-drop at U 0 0,
        get_or-drop at U 1 0,
        get_or-drop at U 2 0,
      ) in
      let l : little_endian ((n + length b) - at) r ≡ L =
      ap₂ (λ (i j : ℕ). little_endian i j) (sym left_length) (sym m) ∙ little_endian-number L
      (all_bytes_drop at U (bytes_append (little_endian n x) b (bytes_little n x) k)) in
      record { good = g ∙ ap unfinished l; many = λ _. sym left_length; bytes = λ _. sym m }
    where
      plus_zero : (i : ℕ) → i + 0 ≡ i
      plus_zero i = omega arith
