-- The sum so far, stopped at the largest number.
use mathlib.Core.Path.{◌≡◌}
use Prim.Native.Nat.{ℕ}
use Rattle.base.specs.Words.{word_at}
use Rattle.base.specs.Sums.{capped, sum_below}
use Rattle.store.specs.Bytes.{reserve_word}
use Rattle.storing.proofs.reserved.Given as goal

abbrev pub invariant-loop-c : goal.invariant-loop-c
invariant-loop-c l = l.sum ≡ capped (sum_below l.c (λ (c : ℕ). word_at (reserve_word c) l.store))
