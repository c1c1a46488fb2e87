-- Ranges that ascend and never touch. The first number of range k has the index 2 k in the list, its last number 2 k + 1.
-- Ranges that ascend and never touch. The first number of range k has the index 2 k in the list, its last number 2 k + 1.
use mathlib.Core.Path.{◌≡◌, refl, sym, ap, subst}
use mathlib.Core.Bool.{true, ◌&&◌, and-false, or-true}
use mathlib.Core.List.{List, [], ◌∷◌}
use Prim.Native.Nat.{ℕ, zero, suc, ◌+◌, ◌*◌, ◌/◌, ◌%◌, ◌<◌, ◌≤◌, zero-le, suc-le-suc}
use native.Mathlib.Nat.{le_of_suc-le-suc, not-suc-le-zero}
use native.Mathlib.Omega.{arith}
use lib.Dec.{eqb, leb}
use lib.ListN.{length, get_or}
use borrow.Author.Tests.{leb-true, le-leb, lt-leb}
use Rattle.std.proofs.Common.{nat_cmp}
use Rattle.std.proofs.lemmas.List.Sorted.{searched}
use Rattle.std.specs.List.Sorted.{IsBinarySearchResult}
use Rattle.std.specs.Prelude.{Ok, Err}
use Rattle.emoji.specs.Tables.{in_ranges, ranges_apart, ranges_apart_from}
use Rattle.base.proofs.Tests.{both_true}

-- The first and the last number of range k.
abbrev pub first : List ℕ → ℕ → ℕ
first rs k = get_or rs (2 * k) 0

abbrev pub last : List ℕ → ℕ → ℕ
last rs k = get_or rs (2 * k + 1) 0

first_suc : (a e : ℕ) (rs : List ℕ) (k : ℕ) → first (a ∷ e ∷ rs) (suc k) ≡ first rs k
first_suc a e rs k =
    let p : 2 * suc k ≡ suc (suc (2 * k)) = omega arith in
    ap (λ (i : ℕ). get_or (a ∷ e ∷ rs) i 0) p

last_suc : (a e : ℕ) (rs : List ℕ) (k : ℕ) → last (a ∷ e ∷ rs) (suc k) ≡ last rs k
last_suc a e rs k =
    let p : 2 * suc k + 1 ≡ suc (suc (2 * k + 1)) = omega arith in
    ap (λ (i : ℕ). get_or (a ∷ e ∷ rs) i 0) p

last_zero : (a e : ℕ) (rs : List ℕ) → last (a ∷ e ∷ rs) zero ≡ e
last_zero a e rs =
    let p : 2 * zero + 1 ≡ suc zero = omega arith in
    ap (λ (i : ℕ). get_or (a ∷ e ∷ rs) i 0) p

-- The facts that the test gives for the first range and for the others.
record Head (low a e : ℕ) (rs : List ℕ) : Type 0 where
  from : low ≤ a
  ordered : a ≤ e
  rest : ranges_apart_from (suc (suc e)) rs ≡ true

head : (low a e : ℕ) (rs : List ℕ) → ranges_apart_from low (a ∷ e ∷ rs) ≡ true → Head low a e rs
unfolding ranges_apart_from
head low a e rs t =
    let p = both_true (leb low a) (leb a e && ranges_apart_from (suc (suc e)) rs) t in
    let q = both_true (leb a e) (ranges_apart_from (suc (suc e)) rs) p.1 in
    record { from = leb-true low a p.0; ordered = leb-true a e q.0; rest = q.1 }

-- The length of the list is even.
odd : (low a : ℕ) → ranges_apart_from low (a ∷ []) ≡ true → ⊥
unfolding ranges_apart_from
odd low a t = let z : ◌≡◌ {A = ℕ} 0 1 = cc in omega arith

-- A range starts at `low` or later, and its first number is at most its last.
pub range_ordered : (low : ℕ) (rs : List ℕ) → ranges_apart_from low rs ≡ true → (k : ℕ) → k < length rs / 2
    → (low ≤ first rs k) × (first rs k ≤ last rs k)
range_ordered low [] t k l = absurd (omega arith)
range_ordered low (a ∷ []) t k l = absurd (odd low a t)
range_ordered low (a ∷ e ∷ rs) t zero l =
    let h = head low a e rs t in
    (h.from, subst (λ (x : ℕ). a ≤ x) (sym (last_zero a e rs)) h.ordered)
range_ordered low (a ∷ e ∷ rs) t (suc k) l =
    let h = head low a e rs t in
    let r = range_ordered (suc (suc e)) rs h.rest k (omega arith) in
    let o = h.ordered in
    let f = h.from in
    omega (arith, first_suc a e rs k, last_suc a e rs k)

-- Of two ranges, the earlier ends at least two numbers before the later starts.
pub ranges_lt : (low : ℕ) (rs : List ℕ) → ranges_apart_from low rs ≡ true → (j k : ℕ) → j < k → k < length rs / 2
    → suc (last rs j) < first rs k
ranges_lt low [] t j k h l = absurd (omega arith)
ranges_lt low (a ∷ []) t j k h l = absurd (odd low a t)
ranges_lt low (a ∷ e ∷ rs) t j zero h l = absurd (not-suc-le-zero h)
ranges_lt low (a ∷ e ∷ rs) t zero (suc k) h l =
    let r = range_ordered (suc (suc e)) rs (head low a e rs t).rest k (omega arith) in
    omega (arith, first_suc a e rs k, last_zero a e rs)
ranges_lt low (a ∷ e ∷ rs) t (suc j) (suc k) h l =
    let r = ranges_lt (suc (suc e)) rs (head low a e rs t).rest j k (le_of_suc-le-suc h) (omega arith) in
    omega (arith, first_suc a e rs k, last_suc a e rs j)

-- A number of the list is at least `low`, and none is above a later one.
from_low : (low : ℕ) (rs : List ℕ) → ranges_apart_from low rs ≡ true → (k : ℕ) → k < length rs → low ≤ get_or rs k 0
from_low low [] t k l = absurd (not-suc-le-zero l)
from_low low (a ∷ []) t k l = absurd (odd low a t)
from_low low (a ∷ e ∷ rs) t zero l = (head low a e rs t).from
from_low low (a ∷ e ∷ rs) t (suc zero) l = let h = head low a e rs t in omega (arith, h.from, h.ordered)
from_low low (a ∷ e ∷ rs) t (suc (suc k)) l =
    let h = head low a e rs t in
    omega (arith, h.from, h.ordered, from_low (suc (suc e)) rs h.rest k (le_of_suc-le-suc (le_of_suc-le-suc l)))

pub ends_rise : (low : ℕ) (rs : List ℕ) → ranges_apart_from low rs ≡ true → (i j : ℕ) → i ≤ j → j < length rs
    → get_or rs i 0 ≤ get_or rs j 0
ends_rise low [] t i j h l = absurd (not-suc-le-zero l)
ends_rise low (a ∷ []) t i j h l = absurd (odd low a t)
ends_rise low (a ∷ e ∷ rs) t zero zero h l = omega arith
ends_rise low (a ∷ e ∷ rs) t zero (suc zero) h l = (head low a e rs t).ordered
ends_rise low (a ∷ e ∷ rs) t zero (suc (suc j)) h l =
    let d = head low a e rs t in
    omega (arith, d.ordered, from_low (suc (suc e)) rs d.rest j (le_of_suc-le-suc (le_of_suc-le-suc l)))
ends_rise low (a ∷ e ∷ rs) t (suc i) zero h l = absurd (not-suc-le-zero h)
ends_rise low (a ∷ e ∷ rs) t (suc zero) (suc zero) h l = omega arith
ends_rise low (a ∷ e ∷ rs) t (suc zero) (suc (suc j)) h l =
    let d = head low a e rs t in
    omega (arith, from_low (suc (suc e)) rs d.rest j (le_of_suc-le-suc (le_of_suc-le-suc l)))
ends_rise low (a ∷ e ∷ rs) t (suc (suc i)) (suc zero) h l = absurd (not-suc-le-zero (le_of_suc-le-suc h))
ends_rise low (a ∷ e ∷ rs) t (suc (suc i)) (suc (suc j)) h l =
    ends_rise (suc (suc e)) rs (head low a e rs t).rest i j (le_of_suc-le-suc (le_of_suc-le-suc h)) (le_of_suc-le-suc (le_of_suc-le-suc l))

-- A number of the list lies in a range.
pub end_in : (low c : ℕ) (rs : List ℕ) → ranges_apart_from low rs ≡ true → (i : ℕ) → i < length rs → get_or rs i 0 ≡ c
    → in_ranges c rs ≡ true
unfolding in_ranges
end_in low c [] t i l q = absurd (not-suc-le-zero l)
end_in low c (a ∷ []) t i l q = absurd (odd low a t)
end_in low c (a ∷ e ∷ rs) t zero l q =
    let h = head low a e rs t in
    simp (le-leb a c (omega (arith, q)), le-leb c e (omega (arith, q, h.ordered)))
end_in low c (a ∷ e ∷ rs) t (suc zero) l q =
    let h = head low a e rs t in
    simp (le-leb a c (omega (arith, q, h.ordered)), le-leb c e (omega (arith, q)))
end_in low c (a ∷ e ∷ rs) t (suc (suc i)) l q =
    simp (end_in (suc (suc e)) c rs (head low a e rs t).rest i (le_of_suc-le-suc (le_of_suc-le-suc l)) q, or-true)

-- A number that is not of the list lies in a range exactly if the first number above it stands at an odd place.
pub place_in : (low c : ℕ) (rs : List ℕ) → ranges_apart_from low rs ≡ true → (i : ℕ) → i ≤ length rs
    → ((k : ℕ) → k < i → get_or rs k 0 < c) → ((k : ℕ) → i ≤ k → k < length rs → c < get_or rs k 0)
    → in_ranges c rs ≡ eqb (i % 2) 1
unfolding in_ranges
place_in low c [] t zero l f g = refl
place_in low c [] t (suc i) l f g = absurd (not-suc-le-zero l)
place_in low c (a ∷ []) t i l f g = absurd (odd low a t)
place_in low c (a ∷ e ∷ rs) t zero l f g =
    let r = place_in (suc (suc e)) c rs (head low a e rs t).rest zero zero-le (λ k h. absurd (not-suc-le-zero h))
    (λ k h m. g (suc (suc k)) zero-le (suc-le-suc (suc-le-suc m))) in
    simp (lt-leb a c (g zero zero-le (suc-le-suc zero-le)), r)
place_in low c (a ∷ e ∷ rs) t (suc zero) l f g =
    let x : a < c = f zero (suc-le-suc zero-le) in
    let y : c < e = g 1 (suc-le-suc zero-le) (suc-le-suc (suc-le-suc zero-le)) in
    simp (le-leb a c (omega arith), le-leb c e (omega arith))
place_in low c (a ∷ e ∷ rs) t (suc (suc i)) l f g =
    let r = place_in (suc (suc e)) c rs (head low a e rs t).rest i (le_of_suc-le-suc (le_of_suc-le-suc l))
    (λ k h. f (suc (suc k)) (suc-le-suc (suc-le-suc h)))
    (λ k h m. g (suc (suc k)) (suc-le-suc (suc-le-suc h)) (suc-le-suc (suc-le-suc m))) in
    let p : suc (suc i) % 2 ≡ i % 2 = omega arith in
    let x : e < c = f 1 (suc-le-suc (suc-le-suc zero-le)) in
    simp (lt-leb c e x, and-false, r, p)

-- What a binary search among the ends of ranges answers tells whether the number lies in a range.
module _ (c : ℕ) (rs : List ℕ) (t : ranges_apart rs ≡ true) (i : ℕ) where
  pub found_end : IsBinarySearchResult (λ y. nat_cmp y c) rs (Ok i) → true ≡ in_ranges c rs
  unfolding ranges_apart
  found_end h = let f = searched rs c (Ok i) h (ends_rise 0 rs t) in sym (end_in 0 c rs t i f.0 f.1)

  pub found_place : IsBinarySearchResult (λ y. nat_cmp y c) rs (Err i) → eqb (i % 2) 1 ≡ in_ranges c rs
  unfolding ranges_apart
  found_place h = let f = searched rs c (Err i) h (ends_rise 0 rs t) in sym (place_in 0 c rs t i f.0 f.1 f.2)
