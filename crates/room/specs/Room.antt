-- The room that a formatted text takes under the default policy (document 02, vii), `default_room`; and the two texts that take the most
-- room, with their policies.
use Rattle.std.specs.Prelude.{List, [], ◌∷◌, ℕ, ◌*◌, ◌/◌, replicate}
use Rattle.policy_key_set.specs.Sets.{word_count}
use Rattle.policy_key_set.specs.declared.PolicyKeySet.{PolicyKeySet}
use Rattle.policy.specs.DefaultPolicy.{default_policy}
use Rattle.policy.specs.PolicyBytes.{policy_bytes}
use Rattle.policy.specs.declared.Policy.{Policy}

-- "under the default policy twice the formatted length is at most five times the input length": the greatest formatted length that this
-- allows, by the input length.
unfoldable pub default_room : ℕ → ℕ
default_room n = 5 * n / 2

-- The bytes of the default policy.
abbrev pub the_default : List ℕ
the_default = policy_bytes default_policy

-- "a text of the one character A9, the copyright sign"
abbrev pub copyright_sign : List ℕ
copyright_sign = 0xC2 ∷ 0xA9 ∷ []

-- "the digit 1"
abbrev pub digit_one : List ℕ
digit_one = 0x31 ∷ []

-- "the empty policy": no set of it has a member.
abbrev pub no_keys : PolicyKeySet
no_keys = record { chars = record { bits = replicate word_count 0 }; keycap_chars = record { bits = replicate word_count 0 } }

abbrev pub empty_policy : Policy
empty_policy = record { prefer_bare = no_keys; bare_as_text = no_keys }

-- The bytes of the empty policy.
abbrev pub the_empty : List ℕ
the_empty = policy_bytes empty_policy
