-- Formatting a damaged text after it was taken in (document 02, ii): "Formatting after this intake means formatting the repaired text,
-- under limit 1 by that text's own length."
use Rattle.std.specs.Prelude.{◌≡◌, ◌↔◌, true, List, ℕ, ◌≤◌, length, replicate, take, Ok, Some}
use Rattle.base.specs.declared.Refusal.TheVariants.{NotWellFormed, TextTooLong}
use Rattle.utf8.specs.Rfc3629.{WellFormed}
use Rattle.policy.specs.PolicyBytes.{is_policy}
use Rattle.repair.specs.Repair.{repair}
use Rattle.repair.specs.Repaired.{repaired}
use Rattle.formatter.specs.Demand3.{Accepted}
use Rattle.formatter.specs.Format.{format}
use Rattle.formatter.specs.Intake.{intake_refusal}

-- The claim on formatting a text after it was repaired.
pub record AfterRepair (text policy : List ℕ) : Type 0 where
  -- formatting the bytes that `repair` wrote is formatting the repaired text
  pub formats : (n k : ℕ) (lent out : List ℕ) → (repair text lent).answer ≡ Ok (record { len = n; replaced = k })
      → format (take n (repair text lent).buffer) policy out ≡ format (repaired text) policy out
  -- refusal 1 depends on the repaired text's own length, and refusal 3 never applies; so a repaired text within the limit is accepted
  pub too_long : (intake_refusal (repaired text) policy ≡ Some TextTooLong) ↔ (16777217 ≤ length (repaired text))
  pub never_ill_formed : (n : ℕ) → intake_refusal (repaired text) policy ≡ Some (NotWellFormed n) → ⊥
  pub accepted : length (repaired text) ≤ 16777216 → is_policy policy ≡ true → Accepted policy (repaired text)
  -- a well-formed text gives the same outcome with and without repairing
  pub as_before : WellFormed text → (out : List ℕ) → format (repaired text) policy out ≡ format text policy out

unfoldable pub EveryAfterRepair : Type 0
EveryAfterRepair = (text policy : List ℕ) → AfterRepair text policy

-- A repaired text can be over the limit although the damaged text is within it: from 5,592,406 bytes FF on.
unfoldable pub RepairMayPassLimit : Type 0
RepairMayPassLimit = (n : ℕ) (policy : List ℕ) → 5592406 ≤ n → intake_refusal (repaired (replicate n 0xFF)) policy ≡ Some TextTooLong
