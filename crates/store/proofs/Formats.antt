-- What formatting answers of a message that is filed: the length that is charged, the buffer, and which refusals it can give.
use Rattle.std.specs.Prelude.{Ok, Err, Some, None, Result, Option}
use mathlib.Core.Path.{◌≡◌, refl, ap, sym, subst, ◌∙◌}
use mathlib.Core.Logic.{⊎_elim}
use mathlib.Core.Bool.{Bool, true, false, true≢false}
use mathlib.Core.List.{List}
use Prim.Native.Nat.{ℕ, ◌*◌, ◌≤◌}
use native.Mathlib.Omega.{arith}
use lib.Dec.{eqb, leb}
use lib.ListN.{length}
use Rattle.base.specs.Refusals.{After, or_else, refusal_table, text_limit, unwritten}
use Rattle.base.specs.declared.Refusal.{Refusal}
use Rattle.base.specs.declared.Refusal.TheVariants.{
  BadClientOrNumber,
  DoesNotFit,
  NotAPolicy,
  NotWellFormed,
  OtherVersion,
  OutputTooShort,
  TextTooLong,
}
use Rattle.utf8.specs.Rfc3629.{valid_up_to_of}
use Rattle.policy.specs.PolicyBytes.{is_policy, policy_fault}
use Rattle.policy.proofs.Refusals.{fault_is}
use Rattle.formatter.specs.Format.{format, formatted, same_bytes}
use Rattle.formatter.specs.Intake.{intake_refusal}
use Rattle.formatter.proofs.Formatting.{format_tests, same_true}
use Rattle.formatter.proofs.FormattedClaim.{formatted-claim}
use Rattle.formatter.proofs.Passing.{by_tests_lem, intake_is, passed-accepted}
use Rattle.store.specs.Calls.{charge_of, is_refusal}

module _ (text policy : List ℕ) where
  abbrev F : List ℕ
  F = formatted text policy

  abbrev pub tests : Bool → Bool → Bool → Bool → Bool → List ℕ → After (Result (Option ℕ) Refusal) ℕ
  tests a b f same fits o =
      or_else (by_tests_lem a b f (policy_fault policy) text) (λ (r : Refusal). unwritten (Err r) o) (format_tests same fits F o)

  -- Formatting, by the answers of its tests.
  pub format_tests_lem : (o : List ℕ)
      → format text policy o
      ≡ tests (leb (length text) text_limit) (is_policy policy) (eqb (valid_up_to_of text) (length text)) (same_bytes F text)
      (leb (length F) (length o)) o
  unfolding format
  format_tests_lem o =
      ap
      (λ (x : Option Refusal).
      or_else x (λ (r : Refusal). unwritten (Err r) o) (format_tests (same_bytes F text) (leb (length F) (length o)) F o))
      (intake_is text policy refl refl refl)

  abbrev Tested : (List ℕ → After (Result (Option ℕ) Refusal) ℕ → Type 0) → List ℕ → Type 0
  Tested P o = (a b f same fits : Bool) → same_bytes F text ≡ same → P o (tests a b f same fits o)

  -- What holds for all answers of the tests holds for formatting.
  by_tests : (P : List ℕ → After (Result (Option ℕ) Refusal) ℕ → Type 0) (o : List ℕ) → Tested P o → P o (format text policy o)
  by_tests P o h =
      subst (P o) (sym (format_tests_lem o))
      (h (leb (length text) text_limit) (is_policy policy) (eqb (valid_up_to_of text) (length text)) (same_bytes F text)
      (leb (length F) (length o)) refl)

  -- A text that needs no change charges its own length, and its output is as it was.
  pub unchanged_means : (o : List ℕ) → (format text policy o).answer ≡ Ok None
      → (length text ≡ charge_of text policy) × ((format text policy o).buffer ≡ o)
  unchanged_means o = by_tests (λ o r. r.answer ≡ Ok None → (length text ≡ length F) × (r.buffer ≡ o)) o go
    where
      go : Tested (λ o r. r.answer ≡ Ok None → (length text ≡ length F) × (r.buffer ≡ o)) o
      go false b f same fits q e = let z : ◌≡◌ {A = ℕ} 0 1 = cc in absurd (omega arith)
      go true false f same fits q e = let z : ◌≡◌ {A = ℕ} 0 1 = cc in absurd (omega arith)
      go true true false same fits q e = let z : ◌≡◌ {A = ℕ} 0 1 = cc in absurd (omega arith)
      go true true true true fits q e = (sym (ap length (same_true F text q)), refl)
      go true true true false true q e = let z : ◌≡◌ {A = ℕ} 0 1 = cc in absurd (omega arith)
      go true true true false false q e = let z : ◌≡◌ {A = ℕ} 0 1 = cc in absurd (omega arith)

  pub changed_means : (o : List ℕ) (n : ℕ) → (format text policy o).answer ≡ Ok (Some n) → n ≡ charge_of text policy
  changed_means o n = by_tests (λ o r. r.answer ≡ Ok (Some n) → n ≡ length F) o go
    where
      go : Tested (λ o r. r.answer ≡ Ok (Some n) → n ≡ length F) o
      go false b f same fits q e = let z : ◌≡◌ {A = ℕ} 0 1 = cc in absurd (omega arith)
      go true false f same fits q e = let z : ◌≡◌ {A = ℕ} 0 1 = cc in absurd (omega arith)
      go true true false same fits q e = let z : ◌≡◌ {A = ℕ} 0 1 = cc in absurd (omega arith)
      go true true true true fits q e = let z : ◌≡◌ {A = ℕ} 0 1 = cc in absurd (omega arith)
      go true true true false true q e = cc
      go true true true false false q e = let z : ◌≡◌ {A = ℕ} 0 1 = cc in absurd (omega arith)

  -- A message that formatting takes is short.
  pub format_small : (o : List ℕ) → is_refusal (format text policy o).answer ≡ false → charge_of text policy ≤ 4 * text_limit
  unfolding format
  format_small o e = go (intake_refusal text policy) refl e
    where
      go : (x : Option Refusal) → intake_refusal text policy ≡ x
          → is_refusal
          (or_else x (λ (r : Refusal). unwritten (Err r) o) (format_tests (same_bytes F text) (leb (length F) (length o)) F o)).answer
          ≡ false
          → charge_of text policy ≤ 4 * text_limit
      go (Some r) q e = absurd (true≢false e)
      go None q e = let a = passed-accepted text policy q in omega (arith, (formatted-claim policy text a).four_times, a.short)

  -- Formatting gives no refusal of a store.
  abbrev NotOfStore : Refusal → Type 0
  NotOfStore r = (r ≡ BadClientOrNumber → ⊥) × ((l : ℕ) → r ≡ DoesNotFit l → ⊥)

  abbrev number : Refusal → ℕ
  number r = (refusal_table r).number

  other-number : (q r : Refusal) → (number q ≡ 13 → ⊥) → (number q ≡ 14 → ⊥) → q ≡ r → NotOfStore r
  other-number q r x y e = (λ h. x (ap number (e ∙ h)), λ l h. y (ap number (e ∙ h)))

  pub not_of_store : (o : List ℕ) (r : Refusal) → (format text policy o).answer ≡ Err r → NotOfStore r
  not_of_store o r = by_tests (λ o x. x.answer ≡ Err r → NotOfStore r) o go
    where
      refused : (q : Refusal) → (number q ≡ 13 → ⊥) → (number q ≡ 14 → ⊥) → ◌≡◌ {A = Result (Option ℕ) Refusal} (Err q) (Err r)
          → NotOfStore r
      refused q x y e = let z : q ≡ r = cc in other-number q r x y z

      go : Tested (λ o x. x.answer ≡ Err r → NotOfStore r) o
      go false b f same fits q e = refused TextTooLong (λ h. omega arith) (λ h. omega arith) e
      go true false f same fits q e =
          ⊎_elim (λ (g : policy_fault policy ≡ NotAPolicy).
          refused NotAPolicy (λ h. omega arith) (λ h. omega arith) (ap Err (sym g) ∙ e))
          (λ g. refused OtherVersion (λ h. omega arith) (λ h. omega arith) (ap Err (sym g) ∙ e)) (fault_is policy)
      go true true false same fits q e = refused (NotWellFormed (valid_up_to_of text)) (λ h. omega arith) (λ h. omega arith) e
      go true true true true fits q e = let z : ◌≡◌ {A = ℕ} 0 1 = cc in absurd (omega arith)
      go true true true false true q e = let z : ◌≡◌ {A = ℕ} 0 1 = cc in absurd (omega arith)
      go true true true false false q e = refused (OutputTooShort (length F)) (λ h. omega arith) (λ h. omega arith) e
