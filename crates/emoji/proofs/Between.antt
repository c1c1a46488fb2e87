-- Laws between tables of any length: a computed test over one table implies a fact about every number.
use mathlib.Core.Path.{◌≡◌, refl, subst}
use mathlib.Core.Logic.{⊎_elim}
use mathlib.Core.Bool.{Bool, true, false, ◌&&◌, ◌||◌, or-true, and-false}
use mathlib.Core.List.{List, [], ◌∷◌}
use Prim.Native.Nat.{ℕ, ◌≤◌}
use native.Mathlib.Omega.{arith}
use lib.Dec.{eqb, leb, ltb}
use borrow.Author.Tests.{eqb-true, leb-true, le-leb, lt-leb, ltb-true}
use Rattle.emoji.specs.Tables.{in_ranges, member}
use Rattle.base.specs.Ranges.{within}
use Rattle.base.proofs.Tests.{both_true, either_true}

-- Each number of a list passes a test.
unfoldable pub every : (ℕ → Bool) → List ℕ → Bool
every p [] = true
every p (x ∷ xs) = p x && every p xs

pub every-member : (p : ℕ → Bool) (xs : List ℕ) → every p xs ≡ true → (c : ℕ) → member c xs ≡ true → p c ≡ true
unfolding every member
every-member p [] t c m = let z : ◌≡◌ {A = ℕ} 0 1 = cc in absurd (omega arith)
every-member p (x ∷ xs) t c m =
    let s = both_true (p x) (every p xs) t in
    ⊎_elim (λ e. subst (λ (y : ℕ). p y ≡ true) (eqb-true x c e) s.0) (λ r. every-member p xs s.1 c r)
    (either_true (eqb x c) (member c xs) m)

-- Each range of a list passes a test.
unfoldable pub every_range : (ℕ → ℕ → Bool) → List ℕ → Bool
every_range p [] = true
every_range p (first ∷ []) = true
every_range p (first ∷ last ∷ rs) = p first last && every_range p rs

-- The range from a to e lies inside one of the ranges.
unfoldable pub lies_in_lem : List ℕ → ℕ → ℕ → Bool
lies_in_lem [] a e = false
lies_in_lem (first ∷ []) a e = false
lies_in_lem (first ∷ last ∷ rs) a e = (leb first a && leb e last) || lies_in_lem rs a e

-- The range from a to e has no number in common with the ranges.
unfoldable pub lies_out_lem : List ℕ → ℕ → ℕ → Bool
lies_out_lem [] a e = true
lies_out_lem (first ∷ []) a e = true
lies_out_lem (first ∷ last ∷ rs) a e = (ltb e first || ltb last a) && lies_out_lem rs a e

module _ (a e c : ℕ) (m : within a e c ≡ true) where
  low : a ≤ c
  low = leb-true a c (both_true (leb a c) (leb c e) m).0

  high : c ≤ e
  high = leb-true c e (both_true (leb a c) (leb c e) m).1

  pub lies_in : (rs : List ℕ) → lies_in_lem rs a e ≡ true → in_ranges c rs ≡ true
  unfolding lies_in_lem in_ranges
  lies_in [] t = let z : ◌≡◌ {A = ℕ} 0 1 = cc in absurd (omega arith)
  lies_in (first ∷ []) t = let z : ◌≡◌ {A = ℕ} 0 1 = cc in absurd (omega arith)
  lies_in (first ∷ last ∷ rs) t =
      ⊎_elim
      (λ p.
      let q = both_true (leb first a) (leb e last) p in
      simp (le-leb first c (omega (arith, low, leb-true first a q.0)), le-leb c last (omega (arith, high, leb-true e last q.1))))
      (λ p. simp (lies_in rs p, or-true)) (either_true (leb first a && leb e last) (lies_in_lem rs a e) t)

  pub lies_out : (rs : List ℕ) → lies_out_lem rs a e ≡ true → in_ranges c rs ≡ false
  unfolding lies_out_lem in_ranges
  lies_out [] t = refl
  lies_out (first ∷ []) t = refl
  lies_out (first ∷ last ∷ rs) t =
      let s = both_true (ltb e first || ltb last a) (lies_out_lem rs a e) t in
      ⊎_elim (λ p. simp (lt-leb first c (omega (arith, high, ltb-true e first p)), lies_out rs s.1))
      (λ p. simp (lt-leb c last (omega (arith, low, ltb-true last a p)), and-false, lies_out rs s.1))
      (either_true (ltb e first) (ltb last a) s.0)

-- If a test of a range implies a fact about each number of the range, then the test of all ranges implies it for each number in them.
pub every_range_lem : (p : ℕ → ℕ → Bool) (Q : ℕ → Type 0) → ((a e c : ℕ) → within a e c ≡ true → p a e ≡ true → Q c)
    → (rs : List ℕ) → every_range p rs ≡ true → (c : ℕ) → in_ranges c rs ≡ true → Q c
unfolding every_range in_ranges
every_range_lem p Q h [] t c m = let z : ◌≡◌ {A = ℕ} 0 1 = cc in absurd (omega arith)
every_range_lem p Q h (a ∷ []) t c m = let z : ◌≡◌ {A = ℕ} 0 1 = cc in absurd (omega arith)
every_range_lem p Q h (a ∷ e ∷ rs) t c m =
    let s = both_true (p a e) (every_range p rs) t in
    ⊎_elim (λ w. h a e c w s.0) (λ r. every_range_lem p Q h rs s.1 c r) (either_true (within a e c) (in_ranges c rs) m)
