-- The bits of a word.
use Rattle.std.specs.Prelude.{Bool, ℕ, ◌/◌, ◌%◌, ◌^◌, eqb}

-- Bit k of a word is 1. Bit 0 is the lowest.
unfoldable pub one : ℕ → ℕ → Bool
one k w = eqb (w / 2 ^ k % 2) 1
