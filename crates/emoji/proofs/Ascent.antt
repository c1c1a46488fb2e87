-- Ascending lists, and the index of a number in one.
use Rattle.std.proofs.Common.{nat_cmp}
use Rattle.std.proofs.lemmas.List.Sorted.{searched}
use Rattle.std.specs.List.Sorted.{IsBinarySearchResult}
use Rattle.std.specs.Option.{is_some, unwrap_or}
use Rattle.std.specs.Result.{result_ok}
use Rattle.std.specs.Prelude.{Some, None, Option, Ok, Err, Result}
use mathlib.Core.Path.{◌≡◌, refl, sym, ap, ◌∙◌, subst}
use mathlib.Core.Logic.{⊎_elim}
use mathlib.Core.Bool.{Bool, true, false, cond, ◌||◌}
use mathlib.Core.List.{List, [], ◌∷◌}
use Prim.Native.Nat.{ℕ, zero, suc, ◌<◌, ◌≤◌, zero-le, suc-le-suc}
use native.Mathlib.Nat.{le_of_suc-le-suc, not-suc-le-zero}
use native.Mathlib.Omega.{arith}
use lib.Dec.{eqb, ltb}
use lib.ListN.{length, get_or}
use borrow.Author.Tests.{eqb-true, ltb-true, eq-eqb, ne_eqb}
use Rattle.emoji.specs.Tables.{ascending, ascending_from, entry_at, index_of, member, next}
use Rattle.base.proofs.Tests.{both_true, le_or_lt}

-- Every element is above the number before the list.
above : (a : ℕ) (xs : List ℕ) → ascending_from a xs ≡ true → (k : ℕ) → k < length xs → a < get_or xs k 0
unfolding ascending_from
above a [] t k h = absurd (not-suc-le-zero h)
above a (x ∷ xs) t zero h = ltb-true a x (both_true (ltb a x) (ascending_from x xs) t).0
above a (x ∷ xs) t (suc k) h =
    let s = both_true (ltb a x) (ascending_from x xs) t in
    let p : a < x = ltb-true a x s.0 in
    let q : x < get_or xs k 0 = above x xs s.1 k (le_of_suc-le-suc h) in
    omega arith

ascending-tail : (x : ℕ) (xs : List ℕ) → ascending (x ∷ xs) ≡ true → ascending xs ≡ true
unfolding ascending ascending_from
ascending-tail x [] t = refl
ascending-tail x (y ∷ xs) t = (both_true (ltb x y) (ascending_from y xs) t).1

-- An earlier element is below a later one.
pub ascending_lt : (xs : List ℕ) → ascending xs ≡ true → (j k : ℕ) → j < k → k < length xs → get_or xs j 0 < get_or xs k 0
unfolding ascending
ascending_lt [] t j k h l = absurd (not-suc-le-zero l)
ascending_lt (x ∷ xs) t j zero h l = absurd (not-suc-le-zero h)
ascending_lt (x ∷ xs) t zero (suc k) h l = above x xs t k (le_of_suc-le-suc l)
ascending_lt (x ∷ xs) t (suc j) (suc k) h l =
    ascending_lt xs (ascending-tail x xs t) j k (le_of_suc-le-suc h) (le_of_suc-le-suc l)

pub ascending_le : (xs : List ℕ) → ascending xs ≡ true → (j k : ℕ) → j ≤ k → k < length xs → get_or xs j 0 ≤ get_or xs k 0
unfolding ascending
ascending_le [] t j k h l = absurd (not-suc-le-zero l)
ascending_le (x ∷ xs) t zero zero h l = omega arith
ascending_le (x ∷ xs) t (suc j) zero h l = absurd (not-suc-le-zero h)
ascending_le (x ∷ xs) t zero (suc k) h l = let p : x < get_or xs k 0 = above x xs t k (le_of_suc-le-suc l) in omega arith
ascending_le (x ∷ xs) t (suc j) (suc k) h l =
    ascending_le xs (ascending-tail x xs t) j k (le_of_suc-le-suc h) (le_of_suc-le-suc l)

-- If no element is c, c has no index.
pub index_none : (c : ℕ) (xs : List ℕ) → ((k : ℕ) → k < length xs → get_or xs k 0 ≡ c → ⊥) → index_of c xs ≡ None
unfolding index_of next
index_none c [] h = refl
index_none c (x ∷ xs) h =
    simp (ne_eqb x c (h zero (suc-le-suc zero-le)), index_none c xs (λ k l. h (suc k) (suc-le-suc l)))

-- If element k is c and no earlier element is, the index of c is k.
pub index_first : (c : ℕ) (xs : List ℕ) (k : ℕ) → k < length xs → get_or xs k 0 ≡ c → ((j : ℕ) → j < k → get_or xs j 0 ≡ c → ⊥)
    → index_of c xs ≡ Some k
unfolding index_of next
index_first c [] k l e h = absurd (not-suc-le-zero l)
index_first c (x ∷ xs) zero l e h = simp (eq-eqb x c e)
index_first c (x ∷ xs) (suc k) l e h =
    simp (
      ne_eqb x c (h zero (suc-le-suc zero-le)),
      index_first c xs k (le_of_suc-le-suc l) e (λ j m. h (suc j) (suc-le-suc m)),
    )

-- The search found an index.
unfoldable pub is_at : Option ℕ → Bool
is_at r = is_some r

-- A list contains a number exactly when the number has an index.
pub member_index : (c : ℕ) (xs : List ℕ) → member c xs ≡ is_at (index_of c xs)
unfolding member index_of next is_at
member_index c [] = refl
member_index c (x ∷ xs) = go (eqb x c) (index_of c xs) (member_index c xs)
  where
    go : (t : Bool) (r : Option ℕ) → member c xs ≡ is_some r → (t || member c xs) ≡ is_some (cond t (Some 0) (next r))
    go true r h = refl
    go false None h = h
    go false (Some i) h = h

-- What a binary search of an ascending list answers is the index of the number.
pub found_index : (c : ℕ) (xs : List ℕ) (r : Result ℕ ℕ) → ascending xs ≡ true → IsBinarySearchResult (λ y. nat_cmp y c) xs r
    → result_ok r ≡ index_of c xs
found_index c xs (Ok i) t h =
    let f = searched xs c (Ok i) h (ascending_le xs t) in
    sym (index_first c xs i f.0 f.1 (λ j l e. omega (arith, ascending_lt xs t j i l f.0)))
found_index c xs (Err i) t h =
    let f = searched xs c (Err i) h (ascending_le xs t) in
    sym (index_none c xs (λ k l e. ⊎_elim (λ (p : i ≤ k). omega (arith, f.2 k p l)) (λ (p : k < i). omega (arith, f.1 k p)) (le_or_lt i k)))

-- The entry at an index is the element there. From the list's length on there is no entry.
pub entry_in_lem : (i : ℕ) (xs : List ℕ) → i < length xs → entry_at i xs ≡ Some (get_or xs i 0)
unfolding entry_at
entry_in_lem i [] h = absurd (not-suc-le-zero h)
entry_in_lem zero (x ∷ xs) h = refl
entry_in_lem (suc i) (x ∷ xs) h = entry_in_lem i xs (le_of_suc-le-suc h)

pub entry_out : (i : ℕ) (xs : List ℕ) → length xs ≤ i → entry_at i xs ≡ None
unfolding entry_at
entry_out i [] h = refl
entry_out zero (x ∷ xs) h = absurd (not-suc-le-zero h)
entry_out (suc i) (x ∷ xs) h = entry_out i xs (le_of_suc-le-suc h)

-- The entry at an index, or 0.
pub entry_or : (i : ℕ) (xs : List ℕ) → unwrap_or (entry_at i xs) 0 ≡ get_or xs i 0
unfolding entry_at
entry_or i [] = refl
entry_or zero (x ∷ xs) = refl
entry_or (suc i) (x ∷ xs) = entry_or i xs

-- The entry at the index of c is c.
pub index_holds : (c : ℕ) (xs : List ℕ) (i : ℕ) → index_of c xs ≡ Some i → entry_at i xs ≡ Some c
unfolding index_of entry_at next
index_holds c [] i e = cc
index_holds c (x ∷ xs) i e = go (eqb x c) refl (index_of c xs) refl i e (λ k. index_holds c xs k)
  where
    go : (t : Bool) → eqb x c ≡ t → (r : Option ℕ) → index_of c xs ≡ r → (i : ℕ) → cond t (Some 0) (next r) ≡ Some i
        → ((k : ℕ) → index_of c xs ≡ Some k → entry_at k xs ≡ Some c) → entry_at i (x ∷ xs) ≡ Some c
    go true p r q zero e ih = ap Some (eqb-true x c p)
    go true p r q (suc i) e ih = cc
    go false p (Some k) q i e ih =
        let n : suc k ≡ i = cc in
        subst (λ (m : ℕ). entry_at m (x ∷ xs) ≡ Some c) n (ih k q)
    go false p None q i e ih = cc

-- In an ascending list, a number occurs at one index only.
pub place_is_index : (xs : List ℕ) → ascending xs ≡ true → (c i : ℕ) → entry_at i xs ≡ Some c → index_of c xs ≡ Some i
place_is_index xs t c i e =
    ⊎_elim (λ h. let z : None ≡ Some c = sym (entry_out i xs h) ∙ e in cc)
    (λ h.
    let p = entry_in_lem i xs h in
    let q : get_or xs i 0 ≡ c = cc in
    index_first c xs i h q (λ j l f. let r = ascending_lt xs t j i l h in absurd (omega arith)))
    (le_or_lt (length xs) i)
