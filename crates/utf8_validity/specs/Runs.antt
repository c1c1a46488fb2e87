-- Runs of characters between two offsets of a text.
use Rattle.std.specs.Prelude.{◌≡◌, List, ℕ, ◌+◌, ◌≤◌, drop, length}
use Rattle.utf8.specs.Rfc3629.{valid_up_to_of}

-- The bytes of s from `from` up to `end` are characters. So the longest well-formed bytes from `from` on and those from `end` on have the
-- same end.
pub record CharsBetween (s : List ℕ) (from end : ℕ) : Type 0 where
  pub forward : from ≤ end
  pub inside : end ≤ length s
  pub same_end : end + valid_up_to_of (drop end s) ≡ from + valid_up_to_of (drop from s)
