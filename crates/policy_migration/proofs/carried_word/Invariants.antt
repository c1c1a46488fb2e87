-- `policy_migration::carried_word` meets its contract: the word has the bits from b on.
use mathlib.Core.Path.{◌≡◌}
use Rattle.policy.specs.PolicyBytes.{numbers_of}
use Rattle.policy_migration.specs.Carry.{carried_test}
use Rattle.policy_migration.specs.Helpers.{set_at}
use Rattle.policy_migration.proofs.Testing.{high}
use Rattle.policy_migration.proofs.carried_word.Given as goal

abbrev pub invariant-loop-b : goal.invariant-loop-b
invariant-loop-b l = l.acc ≡ high (carried_test (numbers_of l.entries) l.policy (set_at l.k)) l.w l.b
