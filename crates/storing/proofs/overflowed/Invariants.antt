-- The sum so far, stopped at the largest number.
use mathlib.Core.Path.{◌≡◌}
use Rattle.base.specs.Sums.{capped, sum_below}
use Rattle.store.specs.Bytes.{overflow_of}
use Rattle.storing.proofs.overflowed.Given as goal

abbrev pub invariant-loop-c : goal.invariant-loop-c
invariant-loop-c l = l.sum ≡ capped (sum_below l.c (overflow_of l.store))
