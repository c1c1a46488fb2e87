-- Sums over clients as the code holds them: a sum above the largest number becomes the largest number. What is left is a difference, and
-- the difference from such a sum is the difference from the sum itself.
use mathlib.Core.Path.{◌≡◌, refl, ap, ap₂, ◌∙◌}
use mathlib.Core.Logic.{◌⊎◌, inl, inr}
use mathlib.Core.List.{List}
use Prim.Native.Nat.{ℕ, suc, ◌+◌, ◌*◌, ◌-◌, ◌≤◌, ◌<◌, min}
use native.Mathlib.Omega.{arith}
use lib.ListN.{drop, get_or, take}
use lib.Seq.{get_or-drop}
use Rattle.base.proofs.Sums.{capped-held, capped-more}
use Rattle.base.proofs.Tests.{le_or_lt}
use Rattle.base.proofs.Words.{number-eight, number_four}
use Rattle.base.specs.Sums.{capped, most, sum_below}
use Rattle.base.specs.Words.{number, word_at}
use Rattle.store.specs.Bytes.{left_of, overflow_of, reserve_word, used_word}
use Rattle.store.specs.Store.{clients}
use Rattle.store.proofs.Sums.{sum-has}

-- ---- sums

pub sum-next : (f : ℕ → ℕ) (n : ℕ) → sum_below (n + 1) f ≡ sum_below n f + f n
unfolding sum_below
sum-next f n = ap (λ (k : ℕ). sum_below k f) (one_up n)
  where
    one_up : (n : ℕ) → n + 1 ≡ suc n
    one_up n = omega arith

-- The capped number as a difference, for omega.
capped_is : (n : ℕ) → capped n ≡ n - (n - most)
capped_is n = go (le_or_lt n most)
  where
    go : (n ≤ most) ⊎ (most < n) → capped n ≡ n - (n - most)
    go (inl l) = omega (arith, capped-held n l)
    go (inr l) = omega (arith, capped-more n l)

pub sum-none : (f : ℕ → ℕ) → 0 ≡ capped (sum_below 0 f)
unfolding sum_below capped
sum-none f = refl

pub sum_more : (f : ℕ → ℕ) (n s v r : ℕ) → s ≡ capped (sum_below n f) → v ≡ f n → r ≡ min (s + v) most → r ≡ capped (sum_below (n + 1) f)
sum_more f n s v r p q e = omega (arith, sum-next f n, capped_is (sum_below n f), capped_is (sum_below (n + 1) f))

pub sum_done : (f : ℕ → ℕ) (n s : ℕ) → n ≡ 16 → s ≡ capped (sum_below n f) → s ≡ capped (sum_below 16 f)
sum_done f n s e h = h ∙ ap (λ (k : ℕ). capped (sum_below k f)) e

-- ---- differences

minus-capped : (x y : ℕ) → x ≤ most → x - capped y ≡ x - y
minus-capped x y h = omega (arith, capped_is y)

minus_le : (x y : ℕ) → x ≤ most → x - y ≤ most
minus_le x y h = omega arith

pub common_is : (C R O r a o z : ℕ) → C ≤ most → r ≡ capped R → a ≡ C - r → o ≡ capped O → z ≡ a - o → z ≡ (C - R) - O
common_is C R O r a o z h p q s t =
    let u : a ≡ C - R = q ∙ ap (λ (v : ℕ). C - v) p ∙ minus-capped C R h in
    t ∙ ap₂ (λ (v w : ℕ). v - w) u s ∙ minus-capped (C - R) O (minus_le C R h)

-- ---- what is left fits a word

eight-small : (xs : List ℕ) → ((j : ℕ) → get_or xs j 0 < 256) → number (take 8 xs) ≤ most
eight-small xs h =
    omega (
      arith,
      number-eight xs,
      number_four xs,
      number_four (drop 4 xs),
      h 0,
      h 1,
      h 2,
      h 3,
      h 4,
      h 5,
      h 6,
      h 7,
      get_or-drop 4 xs 0 0,
      get_or-drop 4 xs 1 0,
      get_or-drop 4 xs 2 0,
      get_or-drop 4 xs 3 0,
    )

pub words_small : (bs : List ℕ) → ((j : ℕ) → get_or bs j 0 < 256) → (k : ℕ) → word_at k bs ≤ most
words_small bs h k = eight-small (drop (8 * k) bs) (λ j. omega (arith, get_or-drop (8 * k) bs j 0, h (8 * k + j)))

module _ (bs : List ℕ) (small : (k : ℕ) → word_at k bs ≤ most) (c : ℕ) (lc : c < 16) where
  pub left_fits : left_of bs c ≤ most
  left_fits =
      omega (arith, small 0, small (reserve_word c), sum-has clients (λ (d : ℕ). word_at (reserve_word d) bs) c lc)

  pub charge_fits : (k : ℕ) → k ≤ left_of bs c → word_at (used_word c) bs + k ≤ most
  charge_fits k h =
      omega (
        arith,
        small 0,
        small (used_word c),
        small (reserve_word c),
        sum-has clients (λ (d : ℕ). word_at (reserve_word d) bs) c lc,
        sum-has clients (overflow_of bs) c lc,
      )
