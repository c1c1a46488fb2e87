-- Formatting a repaired text. The repaired text is well-formed, so only the test of its length and the tests of the policy can refuse it.
use Rattle.std.specs.Prelude.{Some}
use mathlib.Core.Path.{◌≡◌, refl, sym, ap, ◌∙◌}
use mathlib.Core.Logic.{⊎_elim}
use mathlib.Core.Bool.{Bool, true, false}
use mathlib.Core.List.{List}
use Prim.Native.Nat.{ℕ, ◌≤◌}
use native.Mathlib.Omega.{arith}
use lib.Dec.{eqb, leb}
use lib.ListN.{length, replicate}
use borrow.Author.Tests.{eq-eqb, leb-false}
use Rattle.base.specs.Refusals.{text_limit}
use Rattle.base.specs.declared.Refusal.TheVariants.{NotAPolicy, NotWellFormed, TextTooLong}
use Rattle.utf8.specs.Rfc3629.{valid_up_to_of}
use Rattle.utf8.proofs.Grammar.{well_formed_whole}
use Rattle.policy.specs.PolicyBytes.{is_policy, policy_fault}
use Rattle.policy.proofs.Refusals.{fault_is}
use Rattle.repair.specs.Repaired.{repaired}
use Rattle.repair.proofs.Outcomes.{wrote}
use Rattle.repair.proofs.Repairing.{reached, result_well_formed, stretches, well_formed_is}
use Rattle.formatter.specs.AfterRepair.{AfterRepair}
use Rattle.formatter.specs.Format.{format}
use Rattle.formatter.specs.Intake.{intake_refusal}
use Rattle.formatter.proofs.Passing.{by_tests_lem, intake_is, too_long}

-- ---- the tests of a repaired text

whole : (text : List ℕ) → eqb (valid_up_to_of (repaired text)) (length (repaired text)) ≡ true
whole text = eq-eqb _ _ (well_formed_whole (result_well_formed (stretches text)))

module _ (text policy : List ℕ) where
  tests : {a b : Bool} → leb (length (repaired text)) text_limit ≡ a → is_policy policy ≡ b
      → intake_refusal (repaired text) policy ≡ by_tests_lem a b true (policy_fault policy) (repaired text)
  tests p q = intake_is (repaired text) policy p q (whole text)

  never_3 : (a b : Bool) (n : ℕ) → by_tests_lem a b true (policy_fault policy) (repaired text) ≡ Some (NotWellFormed n) → ⊥
  never_3 false b n e = let z : ◌≡◌ {A = ℕ} 0 1 = cc in omega arith
  never_3 true false n e =
      ⊎_elim (λ (f : policy_fault policy ≡ NotAPolicy). let z : ◌≡◌ {A = ℕ} 0 1 = cc in omega arith)
      (λ f. let z : ◌≡◌ {A = ℕ} 0 1 = cc in omega arith) (fault_is policy)
  never_3 true true n e = let z : ◌≡◌ {A = ℕ} 0 1 = cc in omega arith

  only_long : (a b : Bool) → by_tests_lem a b true (policy_fault policy) (repaired text) ≡ Some TextTooLong → a ≡ false
  only_long false b e = refl
  only_long true false e =
      ⊎_elim (λ (f : policy_fault policy ≡ NotAPolicy). let z : ◌≡◌ {A = ℕ} 0 1 = cc in absurd (omega arith))
      (λ f. let z : ◌≡◌ {A = ℕ} 0 1 = cc in absurd (omega arith)) (fault_is policy)
  only_long true true e = let z : ◌≡◌ {A = ℕ} 0 1 = cc in absurd (omega arith)

  pub after-repair : AfterRepair text policy
  after-repair =
      let same = tests refl refl in
      record {
        formats = λ n k lent out e. ap (λ (t : List ℕ). format t policy out) (wrote text lent n k e);
        too_long = (
          λ e. leb-false (length (repaired text)) text_limit
              (only_long (leb (length (repaired text)) text_limit) (is_policy policy) (sym same ∙ e)),
          too_long (repaired text) policy,
        );
        never_ill_formed = λ n e. never_3 (leb (length (repaired text)) text_limit) (is_policy policy) n (sym same ∙ e);
        accepted = λ h p. record { short = h; is_policy_lem = p; well_formed = result_well_formed (stretches text) };
        as_before = λ w out. ap (λ (t : List ℕ). format t policy out) (sym (well_formed_is w).text);
      }

pub passes_limit : (n : ℕ) (policy : List ℕ) → 5592406 ≤ n → intake_refusal (repaired (replicate n 0xFF)) policy ≡ Some TextTooLong
passes_limit n policy h = too_long (repaired (replicate n 0xFF)) policy (omega (arith, (reached n).0))
