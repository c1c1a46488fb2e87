-- Sums, and sums as the code holds them.
use Rattle.std.specs.Prelude.{Bool, true, false, cond, ℕ, zero, suc, ◌+◌, leb}

-- The largest number that the code can hold.
abbrev pub most : ℕ
most = 18446744073709551615

-- A number as the code holds it: a number above the largest becomes the largest.
unfoldable pub capped : ℕ → ℕ
capped n = cond (leb n most) n most

-- 1 for true and 0 for false.
abbrev pub one_if : Bool → ℕ
one_if true = 1
one_if false = 0

-- The sum of a function's values below n.
unfoldable pub sum_below : ℕ → (ℕ → ℕ) → ℕ
sum_below zero f = 0
sum_below (suc n) f = sum_below n f + f n
