-- The limits of document 01, and the tests of a text and a policy that every call makes first ("Turned back").
use Rattle.std.specs.Prelude.{cond, not, List, ℕ, eqb, leb, length, Some, None, Option}
use Rattle.base.specs.Refusals.{or_else, text_limit}
use Rattle.base.specs.declared.Refusal.{Refusal}
use Rattle.base.specs.declared.Refusal.TheVariants.{NotWellFormed, TextTooLong}
use Rattle.utf8.specs.Rfc3629.{valid_up_to_of}
use Rattle.policy.specs.PolicyBytes.{policy_refusal}

-- ---- limits

-- "A list starts from an accepted text of at most 4,194,304 bytes"
abbrev pub list_limit : ℕ
list_limit = 4194304

-- ---- tests of a text and a policy

-- The first two tests: the text is over the limit (1), the policy is refused (2). `none` where both pass.
unfoldable pub first_tests : List ℕ → List ℕ → Option Refusal
first_tests text policy = cond (not (leb (length text) text_limit)) (Some TextTooLong) (policy_refusal policy)

-- "Tested in this order": the first two tests, and then whether the text is not well-formed (3). `none` where all three tests pass.
unfoldable pub intake_refusal : List ℕ → List ℕ → Option Refusal
intake_refusal text policy =
    or_else (first_tests text policy) Some
    (cond (not (eqb (valid_up_to_of text) (length text))) (Some (NotWellFormed (valid_up_to_of text)))
    None)
