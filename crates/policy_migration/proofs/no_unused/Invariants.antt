-- `policy_migration::no_unused` meets its contract: every bit up to here is 0.
use mathlib.Core.Path.{◌≡◌}
use mathlib.Core.Bool.{false}
use Prim.Native.Nat.{ℕ, ◌≤◌, ◌<◌}
use Rattle.policy_key_set.specs.Sets.{member}
use Rattle.policy.specs.PolicyBytes.{words_from}
use Rattle.policy_migration.proofs.no_unused.Given as goal

abbrev pub invariant-loop-i : goal.invariant-loop-i
invariant-loop-i l = (l.count ≤ l.i) × ((m : ℕ) → m < l.i → l.count ≤ m → member m (words_from l.words l.at l.policy) ≡ false)
