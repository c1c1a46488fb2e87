-- Contracts of helper functions: what formatting knows once it has found the first change of a text. The whole outcome of the call is
-- `format` of crates/formatter/specs/Format.antt.
use Rattle.std.specs.Prelude.{◌≡◌, true, List, ℕ, ◌≤◌, length}
use Rattle.base.specs.Refusals.{text_limit}
use Rattle.policy.specs.PolicyBytes.{is_policy, policy_of}
use Rattle.text_pass.specs.Changes.{NextChange}
use Rattle.text_pass.specs.declared.Change.{Change}

-- The text and the policy pass the tests 1 and 2, and formatting changes the text: `first` is the first change.
pub record FirstChange (text policy : List ℕ) (first : Change) : Type 0 where
  pub short : length text ≤ text_limit
  pub is_policy_lem : is_policy policy ≡ true
  pub is_next : NextChange (policy_of policy) text 0 first
  pub is_present : first.present ≡ true
