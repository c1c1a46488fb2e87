-- What is left of the capacity, with the sum so far, is the capacity.
use Rattle.std.proofs.Common.{◌≡◌, ℕ, ◌+◌}
use Rattle.base.specs.Sums.{sum_below}
use Rattle.base.specs.Words.{word_at}
use Rattle.storing.proofs.reserves_fit.Given as goal

abbrev pub invariant-loop-c : goal.invariant-loop-c
invariant-loop-c l = l.rest + sum_below l.c (λ (i : ℕ). word_at i l.reserves) ≡ l.capacity
