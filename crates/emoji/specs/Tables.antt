-- Tables as lists of any length: membership, the index of a number, and the tests that a table is in order. A list of ranges has the
-- first and the last number of each range in turn.
use Rattle.std.specs.Prelude.{Bool, true, false, cond, ◌&&◌, ◌||◌, List, [], ◌∷◌, ℕ, zero, suc, eqb, leb, ltb, Some, None, Option}
use Rattle.base.specs.Ranges.{within}

-- The list contains the number.
unfoldable pub member : ℕ → List ℕ → Bool
member c [] = false
member c (x ∷ xs) = eqb x c || member c xs

-- The index plus 1.
unfoldable pub next : Option ℕ → Option ℕ
next (Some i) = Some (suc i)
next None = None

-- The index of the first occurrence of a number in a list.
unfoldable pub index_of : ℕ → List ℕ → Option ℕ
index_of c [] = None
index_of c (x ∷ xs) = cond (eqb x c) (Some 0) (next (index_of c xs))

-- The number at an index of a list.
unfoldable pub entry_at : ℕ → List ℕ → Option ℕ
entry_at i [] = None
entry_at zero (x ∷ xs) = Some x
entry_at (suc i) (x ∷ xs) = entry_at i xs

-- The number lies in one of the ranges.
unfoldable pub in_ranges : ℕ → List ℕ → Bool
in_ranges c [] = false
in_ranges c (first ∷ []) = false
in_ranges c (first ∷ last ∷ rs) = within first last c || in_ranges c rs

-- "Every table is strictly ascending": each number is below the next. The first argument is the number before the list.
unfoldable pub ascending_from : ℕ → List ℕ → Bool
ascending_from x [] = true
ascending_from x (y ∷ ys) = ltb x y && ascending_from y ys

unfoldable pub ascending : List ℕ → Bool
ascending [] = true
ascending (x ∷ xs) = ascending_from x xs

-- ".. and its ranges never touch or overlap": a range's first number is at least `low` and at most its last number, and the next range
-- starts at the last number plus 2 or later.
unfoldable pub ranges_apart_from : ℕ → List ℕ → Bool
ranges_apart_from low [] = true
ranges_apart_from low (first ∷ []) = false
ranges_apart_from low (first ∷ last ∷ rs) = leb low first && (leb first last && ranges_apart_from (suc (suc last)) rs)

unfoldable pub ranges_apart : List ℕ → Bool
ranges_apart rs = ranges_apart_from 0 rs
