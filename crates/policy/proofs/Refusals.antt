-- The refusal of bytes that are given as a policy, by the test `is_policy`, and by the three tests in their order.
use Rattle.std.specs.Prelude.{Some, None, Option}
use mathlib.Core.Path.{◌≡◌, refl, sym, ap}
use mathlib.Core.Logic.{◌⊎◌, inl, inr}
use mathlib.Core.Bool.{Bool, true, false, cond, not, ◌&&◌}
use mathlib.Core.List.{List}
use Prim.Native.Nat.{ℕ}
use lib.Dec.{eqb}
use lib.ListN.{length}
use borrow.Author.Tests.{eq-eqb, eqb-true, ne_eqb}
use Rattle.base.specs.Refusals.{refusal_row}
use Rattle.base.specs.declared.Refusal.{Refusal}
use Rattle.base.specs.declared.Refusal.TheVariants.{NotAPolicy, OtherVersion}
use Rattle.base.proofs.Tests.{both_true}
use Rattle.emoji.specs.UnicodeData.{unicode_version}
use Rattle.policy.specs.PolicyBytes.{
  is_policy,
  no_unused_bits,
  policy_fault,
  policy_length,
  policy_of,
  policy_refusal,
  version_of,
}

abbrev by_test : Refusal → Bool → Option Refusal
by_test f b = cond b None (Some f)

test_passed : (f : Refusal) (b : Bool) → by_test f b ≡ None → b ≡ true
test_passed f true e = refl
test_passed f false e = cc

test_failed : (f r : Refusal) (b : Bool) → by_test f b ≡ Some r → b ≡ false
test_failed f r true e = cc
test_failed f r false e = refl

-- The refusal by the results of the three tests: the number of bytes, the version, the unused bits.
abbrev by_tests_lem : Bool → Bool → Bool → Option Refusal
by_tests_lem a b c = cond (a && (b && c)) None (Some (cond (a && not b) OtherVersion NotAPolicy))

same_tests : {a b c x y z : Bool} → a ≡ x → b ≡ y → c ≡ z → by_tests_lem a b c ≡ by_tests_lem x y z
same_tests e f g = cc

no_value : (b : Bool) → (refusal_row (cond b OtherVersion NotAPolicy)).value ≡ 0
no_value true = refl
no_value false = refl

either : (b : Bool) {r : Refusal} → cond b OtherVersion NotAPolicy ≡ r → (r ≡ NotAPolicy) ⊎ (r ≡ OtherVersion)
either true e = inr (sym e)
either false e = inl (sym e)

module _ (bs : List ℕ) where
  pub policy-passes : is_policy bs ≡ true → policy_refusal bs ≡ None
  unfolding policy_refusal
  policy-passes e = ap (by_test (policy_fault bs)) e

  pub policy-refused : is_policy bs ≡ false → policy_refusal bs ≡ Some (policy_fault bs)
  unfolding policy_refusal
  policy-refused e = ap (by_test (policy_fault bs)) e

  pub passed-policy : policy_refusal bs ≡ None → is_policy bs ≡ true
  unfolding policy_refusal
  passed-policy e = test_passed (policy_fault bs) (is_policy bs) e

  pub refused-policy : (r : Refusal) → policy_refusal bs ≡ Some r → is_policy bs ≡ false
  unfolding policy_refusal
  refused-policy r e = test_failed (policy_fault bs) r (is_policy bs) e

  -- The refusal's value is 0, since the table says "nothing more".
  pub fault_value : (refusal_row (policy_fault bs)).value ≡ 0
  unfolding policy_fault
  fault_value = no_value (eqb (length bs) policy_length && not (eqb (version_of bs) unicode_version))

  -- The refusal is number 2 or number 15.
  pub fault_is : (policy_fault bs ≡ NotAPolicy) ⊎ (policy_fault bs ≡ OtherVersion)
  unfolding policy_fault
  fault_is = either (eqb (length bs) policy_length && not (eqb (version_of bs) unicode_version)) refl

  -- Bytes that are a policy pass each test.
  pub policy_parts : is_policy bs ≡ true
      → (length bs ≡ policy_length) × (version_of bs ≡ unicode_version) × (no_unused_bits (policy_of bs) ≡ true)
  unfolding is_policy
  policy_parts e =
      let a = both_true (eqb (length bs) policy_length) (eqb (version_of bs) unicode_version && no_unused_bits (policy_of bs)) e in
      let b = both_true (eqb (version_of bs) unicode_version) (no_unused_bits (policy_of bs)) a.1 in
      (eqb-true (length bs) policy_length a.0, eqb-true (version_of bs) unicode_version b.0, b.1)

  -- The first test that fails gives the refusal.
  pub length_first : (length bs ≡ policy_length → ⊥) → policy_refusal bs ≡ Some NotAPolicy
  unfolding policy_refusal is_policy policy_fault
  length_first h =
      same_tests {b = eqb (version_of bs) unicode_version} {c = no_unused_bits (policy_of bs)} (ne_eqb (length bs) policy_length h) refl
      refl

  module _ (h : length bs ≡ policy_length) where
    pub version-second : (version_of bs ≡ unicode_version → ⊥) → policy_refusal bs ≡ Some OtherVersion
    unfolding policy_refusal is_policy policy_fault
    version-second v =
        same_tests {c = no_unused_bits (policy_of bs)} (eq-eqb (length bs) policy_length h) (ne_eqb (version_of bs) unicode_version v) refl

    module _ (v : version_of bs ≡ unicode_version) where
      pub bits-third : no_unused_bits (policy_of bs) ≡ false → policy_refusal bs ≡ Some NotAPolicy
      unfolding policy_refusal is_policy policy_fault
      bits-third u = same_tests (eq-eqb (length bs) policy_length h) (eq-eqb (version_of bs) unicode_version v) u

      pub all_pass : no_unused_bits (policy_of bs) ≡ true → policy_refusal bs ≡ None
      unfolding policy_refusal is_policy policy_fault
      all_pass u = same_tests (eq-eqb (length bs) policy_length h) (eq-eqb (version_of bs) unicode_version v) u
