-- Tests of every number below a bound: a computed test, and the count of the numbers that pass.
use mathlib.Core.Path.{◌≡◌, refl, sym, ap, ap₂, ◌∙◌, subst}
use mathlib.Core.Logic.{⊎_elim}
use mathlib.Core.Bool.{Bool, true, false, beq, ◌&&◌, ◌||◌, not}
use Prim.Native.Nat.{ℕ, zero, suc, ◌+◌, ◌<◌, ◌≤◌}
use native.Mathlib.Nat.{add-zero, eq-or-lt_of_le, le_of_suc-le-suc, not-suc-le-zero}
use native.Mathlib.Omega.{arith}
use lib.Dec.{eqb}
use borrow.Author.Tests.{ne_eqb}
use Rattle.base.specs.Sums.{one_if}
use Rattle.base.proofs.Tests.{both_true}
use Rattle.policy_key_set.specs.Sets.{all_below, count_below, differ}

pub all_below_lem : (n : ℕ) (p : ℕ → Bool) → all_below n p ≡ true → (k : ℕ) → k < n → p k ≡ true
unfolding all_below
all_below_lem zero p t k h = absurd (not-suc-le-zero h)
all_below_lem (suc n) p t k h =
    let s = both_true (p n) (all_below n p) t in
    ⊎_elim (λ (e : k ≡ n). subst (λ (m : ℕ). p m ≡ true) (sym e) s.0) (λ (l : k < n). all_below_lem n p s.1 k l)
    (eq-or-lt_of_le (le_of_suc-le-suc h))

pub below_all : (n : ℕ) (p : ℕ → Bool) → ((k : ℕ) → k < n → p k ≡ true) → all_below n p ≡ true
unfolding all_below
below_all zero p h = refl
below_all (suc n) p h = simp (h n (omega arith), below_all n p (λ k l. h k (omega arith)))

-- Tests that agree below n have the same count.
pub count_same : (n : ℕ) (p q : ℕ → Bool) → ((k : ℕ) → k < n → p k ≡ q k) → count_below n p ≡ count_below n q
unfolding count_below
count_same zero p q h = refl
count_same (suc n) p q h = ap₂ ◌+◌ (count_same n p q (λ k l. h k (omega arith))) (ap one_if (h n (omega arith)))

-- If no number from n on passes, the count below m is the count below n.
pub count_to : (n m : ℕ) (p : ℕ → Bool) → n ≤ m → ((k : ℕ) → n ≤ k → p k ≡ false) → count_below m p ≡ count_below n p
unfolding count_below
count_to n zero p l h = let e : 0 ≡ n = omega arith in ap (λ (k : ℕ). count_below k p) e
count_to n (suc m) p l h =
    ⊎_elim (λ (e : n ≡ suc m). ap (λ (k : ℕ). count_below k p) (sym e))
    (λ (q : n < suc m). let e : one_if (p m) ≡ 0 = ap one_if (h m (omega arith)) in omega (arith, count_to n m p (omega arith) h))
    (eq-or-lt_of_le l)

pub number_le : (b : Bool) → one_if b ≤ 1
number_le true = omega arith
number_le false = omega arith

pub count_le : (n : ℕ) (p : ℕ → Bool) → count_below n p ≤ n
unfolding count_below
count_le zero p = omega arith
count_le (suc n) p = omega (arith, count_le n p, number_le (p n))

-- If the count is 0, no number passes. If it is n, every number passes.
pub count_none : (n : ℕ) (p : ℕ → Bool) → count_below n p ≡ 0 → (k : ℕ) → k < n → p k ≡ false
unfolding count_below
count_none zero p e k h = absurd (not-suc-le-zero h)
count_none (suc n) p e k h =
    ⊎_elim (λ (q : k ≡ n). ap p q ∙ no (p n) (omega arith)) (λ (l : k < n). count_none n p (omega arith) k l)
    (eq-or-lt_of_le (le_of_suc-le-suc h))
  where
    no : (b : Bool) → one_if b ≡ 0 → b ≡ false
    no true e = cc
    no false e = refl

pub count_all : (n : ℕ) (p : ℕ → Bool) → count_below n p ≡ n → (k : ℕ) → k < n → p k ≡ true
unfolding count_below
count_all zero p e k h = absurd (not-suc-le-zero h)
count_all (suc n) p e k h =
    ⊎_elim (λ (q : k ≡ n). ap p q ∙ yes (p n) (omega (arith, count_le n p)))
    (λ (l : k < n). count_all n p (omega (arith, number_le (p n), count_le n p)) k l)
    (eq-or-lt_of_le (le_of_suc-le-suc h))
  where
    yes : (b : Bool) → 0 < one_if b → b ≡ true
    yes true e = refl
    yes false e = absurd (omega arith)

pub none-counted : (n : ℕ) → count_below n (λ (i : ℕ). false) ≡ 0
unfolding count_below
none-counted zero = refl
none-counted (suc n) = omega (arith, none-counted n)

pub all_counted : (n : ℕ) → count_below n (λ (i : ℕ). true) ≡ n
unfolding count_below
all_counted zero = refl
all_counted (suc n) = omega (arith, all_counted n)

-- The count of the numbers at which two tests differ is 0 exactly if the tests agree.
pub none_differ : (n : ℕ) (p q : ℕ → Bool)
    → eqb (count_below n (λ (i : ℕ). differ (p i) (q i))) 0 ≡ all_below n (λ (i : ℕ). beq (p i) (q i))
unfolding count_below all_below
none_differ zero p q = refl
none_differ (suc n) p q = go (beq (p n) (q n)) (none_differ n p q)
  where
    go : (b : Bool) → eqb (count_below n (λ (i : ℕ). differ (p i) (q i))) 0 ≡ all_below n (λ (i : ℕ). beq (p i) (q i))
        → eqb (count_below n (λ (i : ℕ). differ (p i) (q i)) + one_if (not b)) 0
        ≡ (b && all_below n (λ (i : ℕ). beq (p i) (q i)))
    go true h = ap (λ (m : ℕ). eqb m 0) (add-zero (count_below n (λ (i : ℕ). differ (p i) (q i)))) ∙ h
    go false h = ne_eqb (count_below n (λ (i : ℕ). differ (p i) (q i)) + 1) 0 (λ e. omega arith)

-- The count of either test plus the count of both tests is the sum of the two counts.
pub count_union : (n : ℕ) (p q : ℕ → Bool)
    → count_below n (λ (i : ℕ). p i || q i) + count_below n (λ (i : ℕ). p i && q i) ≡ count_below n p + count_below n q
unfolding count_below
count_union zero p q = refl
count_union (suc n) p q = let e = count_union n p q in let f = two (p n) (q n) in omega arith
  where
    two : (x y : Bool) → one_if (x || y) + one_if (x && y) ≡ one_if x + one_if y
    two true y = refl
    two false true = refl
    two false false = refl
