-- Words that are made from a test hold exactly the places where it passes.
use mathlib.Core.Path.{◌≡◌, refl, ap, sym, ◌∙◌}
use mathlib.Core.Logic.{⊎_elim}
use mathlib.Core.Bool.{Bool, true, false}
use Prim.Native.Nat.{ℕ, zero, suc, ◌+◌, ◌*◌, ◌/◌, ◌%◌, ◌^◌, ◌≤◌, ◌<◌}
use native.Mathlib.Nat.{pow-suc}
use native.Mathlib.Omega.{arith}
use lib.Dec.{eqb}
use lib.ListN.{get_or, length}
use borrow.Author.Tests.{eq-eqb}
use Rattle.base.specs.Sums.{one_if}
use Rattle.base.specs.Bits.{one}
use Rattle.base.proofs.Bits.{low_bit, next_bit}
use Rattle.base.proofs.Tests.{le_or_lt}
use Rattle.policy_key_set.specs.Sets.{member, word_of, words_of}
use Rattle.policy_key_set.proofs.Below.{number_le}
use Rattle.policy_key_set.proofs.Members.{member-past}

low_test : (b : Bool) (x : ℕ) → eqb ((one_if b + 2 * x) % 2) 1 ≡ b
low_test true x = eq-eqb ((1 + 2 * x) % 2) 1 (omega arith)
low_test false x = ap (λ (y : ℕ). eqb y 1) (even x)
  where
    even : (x : ℕ) → ◌≡◌ {A = ℕ} ((0 + 2 * x) % 2) 0
    even x = omega arith

half_test : (b : Bool) (x : ℕ) → (one_if b + 2 * x) / 2 ≡ x
half_test true x = omega arith
half_test false x = omega arith

-- A bit below n.
pub bit_of : (n : ℕ) (p : ℕ → Bool) (k : ℕ) → k < n → one k (word_of n p) ≡ p k
unfolding word_of
bit_of zero p k l = absurd (omega arith)
bit_of (suc n) p zero l = low_bit (one_if (p 0) + 2 * word_of n (λ (i : ℕ). p (suc i))) ∙ low_test (p 0) (word_of n (λ (i : ℕ). p (suc i)))
bit_of (suc n) p (suc k) l =
    next_bit k (one_if (p 0) + 2 * word_of n (λ (i : ℕ). p (suc i)))
    ∙ ap (one k) (half_test (p 0) (word_of n (λ (i : ℕ). p (suc i))))
    ∙ bit_of n (λ (i : ℕ). p (suc i)) k (omega arith)

pub word_small : (n : ℕ) (p : ℕ → Bool) → word_of n p < 2 ^ n
unfolding word_of
word_small zero p = omega arith
word_small (suc n) p = omega (arith, pow-suc 2 n, word_small n (λ (i : ℕ). p (suc i)), number_le (p 0))

pub words_many : (m : ℕ) (p : ℕ → Bool) → length (words_of m p) ≡ m
unfolding words_of
words_many zero p = refl
words_many (suc m) p = ap suc (words_many m (λ (i : ℕ). p (64 + i)))

pub words_small : (m : ℕ) (p : ℕ → Bool) (k : ℕ) → get_or (words_of m p) k 0 < 2 ^ 64
unfolding words_of
words_small zero p k = omega arith
words_small (suc m) p zero = word_small 64 p
words_small (suc m) p (suc k) = words_small m (λ (i : ℕ). p (64 + i)) k

word_is : (m : ℕ) (p : ℕ → Bool) (k : ℕ) → k < m → (b : ℕ) → b < 64 → one b (get_or (words_of m p) k 0) ≡ p (64 * k + b)
unfolding words_of
word_is zero p k l b h = absurd (omega arith)
word_is (suc m) p zero l b h = bit_of 64 p b h ∙ ap p (omega arith)
word_is (suc m) p (suc k) l b h = word_is m (λ (i : ℕ). p (64 + i)) k (omega arith) b h ∙ ap p (omega arith)

-- What the words hold, if the test passes nowhere past them.
pub words_hold : (m : ℕ) (p : ℕ → Bool) → ((i : ℕ) → m * 64 ≤ i → p i ≡ false) → (i : ℕ) → member i (words_of m p) ≡ p i
unfolding member
words_hold m p h i =
    ⊎_elim (λ l. member-past (words_of m p) i (omega (arith, words_many m p)) ∙ sym (h i l))
    (λ l. word_is m p (i / 64) (omega arith) (i % 64) (omega arith) ∙ ap p (omega arith)) (le_or_lt (m * 64) i)
