-- Definitions that only the contracts of private functions and the proofs cite.
use Rattle.std.specs.Prelude.{ℕ, zero, suc}
use Rattle.policy_migration.specs.Carry.{WhichSet, bare_as_text_set, bare_as_text_keycap_set, prefer_bare_set, prefer_bare_keycap_set}

-- The set at a place of a stored policy.
abbrev pub set_at : ℕ → WhichSet
set_at zero = prefer_bare_set
set_at (suc zero) = prefer_bare_keycap_set
set_at (suc (suc zero)) = bare_as_text_set
set_at (suc (suc (suc n))) = bare_as_text_keycap_set
