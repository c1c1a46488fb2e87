-- A number in a range.
use Rattle.std.specs.Prelude.{Bool, ◌&&◌, ℕ, leb}

-- The number n is at least lo and at most hi.
abbrev pub within : ℕ → ℕ → ℕ → Bool
within lo hi n = leb lo n && leb n hi
