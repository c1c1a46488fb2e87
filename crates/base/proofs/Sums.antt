-- Numbers as the code holds them: a number up to the largest one is unchanged.
use mathlib.Core.Path.{◌≡◌}
use Prim.Native.Nat.{ℕ, ◌<◌, ◌≤◌}
use borrow.Author.Tests.{le-leb, lt-leb}
use Rattle.base.specs.Sums.{capped, most}

pub capped-held : (n : ℕ) → n ≤ most → capped n ≡ n
unfolding capped
capped-held n l = simp (le-leb n most l)

pub capped-more : (n : ℕ) → most < n → capped n ≡ most
unfolding capped
capped-more n l = simp (lt-leb n most l)
