-- `policy_migration::is_ascending` meets its contract: the pairs up to here ascend.
use mathlib.Core.Path.{◌≡◌}
use Prim.Native.Nat.{ℕ, suc, ◌/◌, ◌<◌}
use lib.ListN.{get_or, length}
use Rattle.policy.specs.PolicyBytes.{numbers_of}
use Rattle.policy_migration.proofs.is_ascending.Given as goal

abbrev pub invariant-loop-j : goal.invariant-loop-j
invariant-loop-j l = (0 < l.j) × (l.count ≡ length l.entries / 8)
    × ((i : ℕ) → suc i < l.j → i < l.count → get_or (numbers_of l.entries) i 0 < get_or (numbers_of l.entries)
    (suc i) 0)
