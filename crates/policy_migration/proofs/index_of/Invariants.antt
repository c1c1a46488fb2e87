-- `policy_migration::index_of` meets its contract: the numbers before lo are below the number, and those from hi on are above it.
use Prim.Native.Nat.{ℕ, ◌-◌, ◌/◌, ◌≤◌, ◌<◌}
use lib.ListN.{get_or, length}
use Rattle.policy.specs.PolicyBytes.{numbers_of}
use Rattle.policy_migration.proofs.index_of.Given as goal

abbrev pub invariant-loop-lo : goal.invariant-loop-lo
invariant-loop-lo l = (l.hi ≤ length l.entries / 8) × (l.lo ≤ l.hi)
    × ((i : ℕ) → i < l.lo → i < length (numbers_of l.entries) → get_or (numbers_of l.entries) i 0 < l.c)
    × ((i : ℕ) → l.hi ≤ i → i < length (numbers_of l.entries) → l.c < get_or (numbers_of l.entries) i 0)

abbrev pub decreases-loop-lo : goal.decreases-loop-lo
decreases-loop-lo l = l.hi - l.lo
