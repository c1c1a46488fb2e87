-- The list of all numbers of some ranges: a number is in the list exactly when it lies in one of the ranges.
use mathlib.Core.Path.{◌≡◌, refl, sym, ◌∙◌}
use mathlib.Core.Logic.{◌⊎◌, inl, inr, ⊎_elim}
use mathlib.Core.Bool.{true, and-false, or-false, or-true}
use mathlib.Core.List.{List, [], ◌∷◌, ◌++◌}
use Prim.Native.Nat.{ℕ, zero, suc, ◌+◌, ◌-◌, ◌≤◌, ◌<◌}
use native.Mathlib.Omega.{arith}
use borrow.Author.Tests.{eq-eqb, le-leb, lt-leb, ne_eqb}
use Rattle.base.specs.Ranges.{within}
use Rattle.base.proofs.Tests.{le_or_lt}
use Rattle.emoji.specs.Tables.{in_ranges, member}

-- The n numbers from a on.
unfoldable pub numbers_from : ℕ → ℕ → List ℕ
numbers_from a zero = []
numbers_from a (suc n) = a ∷ numbers_from (suc a) n

-- The numbers of the ranges.
unfoldable pub numbers_of : List ℕ → List ℕ
numbers_of [] = []
numbers_of (first ∷ []) = []
numbers_of (first ∷ last ∷ rs) = numbers_from first (suc last - first) ++ numbers_of rs

among : (c n a : ℕ) (xs : List ℕ) → a ≤ c → c < a + n → member c (numbers_from a n ++ xs) ≡ true
unfolding numbers_from member
among c zero a xs l h = absurd (omega arith)
among c (suc n) a xs l h =
    ⊎_elim (λ p. simp (among c n (suc a) xs p (omega arith), or-true)) (λ p. simp (eq-eqb a c (omega arith))) (le_or_lt (suc a) c)

not_among : (c n a : ℕ) (xs : List ℕ) → (c < a) ⊎ (a + n ≤ c) → member c (numbers_from a n ++ xs) ≡ member c xs
unfolding numbers_from member
not_among c zero a xs h = refl
not_among c (suc n) a xs (inl l) = rw (ne_eqb a c (λ e. omega arith)) (not_among c n (suc a) xs (inl (omega arith)))
not_among c (suc n) a xs (inr l) = rw (ne_eqb a c (λ e. omega arith)) (not_among c n (suc a) xs (inr (omega arith)))

pub in_numbers : (c : ℕ) (rs : List ℕ) → in_ranges c rs ≡ member c (numbers_of rs)
unfolding in_ranges numbers_of member
in_numbers c [] = refl
in_numbers c (first ∷ []) = refl
in_numbers c (first ∷ last ∷ rs) =
    ⊎_elim
    (λ l.
    ⊎_elim
    (λ h. simp (le-leb first c l, le-leb c last h, among c (suc last - first) first (numbers_of rs) l (omega arith)))
    (λ h.
    simp (lt-leb c last h, and-false)
    (in_numbers c rs ∙ sym (not_among c (suc last - first) first (numbers_of rs) (inr (omega arith)))))
    (le_or_lt c last))
    (λ l. simp (lt-leb first c l) (in_numbers c rs ∙ sym (not_among c (suc last - first) first (numbers_of rs) (inl l))))
    (le_or_lt first c)

pub one_range : (first last c : ℕ) → within first last c ≡ in_ranges c (first ∷ last ∷ [])
unfolding in_ranges
one_range first last c = sym (or-false (within first last c))
