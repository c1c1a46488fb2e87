-- The proof of each statement of specs/Theorems.antt.
use mathlib.Core.Path.{◌∙◌}
use Rattle.policy.specs.PolicyBytes.{numbers_of}
use Rattle.policy.specs.Theorems.{ReadWritten}
use Rattle.policy.proofs.Claims.{read_written}
use Rattle.policy_migration.specs.Carry.{carried}
use Rattle.policy_migration.specs.Theorems.{CarriedHome, CarriedIsPolicy, CarriedMembers, CarryInOrder, TestsMean}
use Rattle.policy_migration.proofs.Calls.{home_call, in_order}
use Rattle.policy_migration.proofs.Carrying.{carried_length, home, members, no_unused, policy_value}
use Rattle.policy_migration.proofs.Meaning.{entry_list, list-accepted, unused-one, unused-refused}

pub carried_members : CarriedMembers
unfolding CarriedMembers
carried_members old policy k c e = members old policy k c e

pub carried_is_policy : CarriedIsPolicy
unfolding CarriedIsPolicy ReadWritten
carried_is_policy old policy = (
  policy_value old policy,
  no_unused old policy,
  carried_length old policy,
  (read_written (carried old policy) (policy_value old policy)).1 ∙ no_unused old policy,
)

pub carried_home : CarriedHome
unfolding CarriedHome
carried_home p v u version = (home p v u version, home_call p v u version)

pub tests_mean : TestsMean
unfolding TestsMean
tests_mean entries policy = (
  (entry_list entries policy, list-accepted entries policy),
  (unused-one (numbers_of entries) policy, unused-refused (numbers_of entries) policy),
)

pub carry_in_order : CarryInOrder
unfolding CarryInOrder
carry_in_order entries policy out = in_order entries policy out
