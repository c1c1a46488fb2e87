-- `PolicyKeySet::size` meets its contract: each domain has at most 354 entries, so the sum does not overflow.
use native.Mathlib.Omega.{arith}
use Rattle.policy_key_set.proofs.Entries.{entry_count_lem, size_le}
use Rattle.policy_key_set.proofs.PolicyKeySet.size.Goals as goal

pub overflow_add-result : goal.overflow_add-result
overflow_add-result c =
    let a = c.args.self in
    omega (arith, entry_count_lem, size_le a.chars.bits, size_le a.keycap_chars.bits)
