-- The values of the answers around a stretch and of the nearest finding are small.
use Rattle.base.specs.Answers.{optional_row}
use Rattle.std.specs.Prelude.{Ok, Err, Some, Result, Option, None}
use mathlib.Core.Path.{◌≡◌, refl, ap, sym, subst, ◌∙◌}
use mathlib.Core.Logic.{⊎_elim}
use mathlib.Core.Bool.{Bool, true, false, cond}
use mathlib.Core.List.{List}
use Prim.Native.Nat.{ℕ, ◌/◌, ◌^◌, ◌<◌, ◌≤◌}
use native.Mathlib.Omega.{arith}
use lib.Dec.{leb}
use lib.ListN.{length}
use Rattle.base.specs.Refusals.{or_else, refusal_row, unwritten, written}
use Rattle.base.specs.Words.{bytes_of}
use Rattle.base.specs.declared.Refusal.{Refusal}
use Rattle.base.specs.declared.Refusal.TheVariants.{TableTooShort}
use Rattle.base.proofs.Tests.{le_or_lt}
use Rattle.analysis.specs.declared.types.Finding.{Finding}
use Rattle.formatter.specs.Findings.{listed}
use Rattle.formatter.specs.Intake.{intake_refusal}
use Rattle.formatter.specs.List.{row_bytes}
use Rattle.formatter.proofs.Passing.{passed-accepted}
use Rattle.findings_near.specs.Around.{AfterBoth, list_around}
use Rattle.findings_near.specs.Nearest.{give_nearest, nearest, nearest_bytes, nearest_numbers, write_nearest}
use Rattle.findings_near.specs.Theorems.{AroundCall, inside_number, sharing_number}
use Rattle.findings_near.specs.declared.ListedAround.{ListedAround}
use Rattle.findings_near.proofs.Calls.{around_call, few-inside, few_sharing}
use Rattle.tilghorz.proofs.SmallAnswers.{intake_small, most}

-- ---- around a stretch

module _ (text policy : List ℕ) (from to : ℕ) (inner outer : List ℕ) where
  call : AroundCall text policy from to inner outer
  call = around_call text policy from to inner outer

  -- The refusal of an outcome that is known.
  refused_is : {a : Result ListedAround Refusal} {s r : Refusal} → a ≡ Err s → (refusal_row s).value < 2 ^ 28 → a ≡ Err r
      → (refusal_row r).value < 2 ^ 28
  refused_is {a} {s} {r} e h f =
      let z : s ≡ r = cc in
      subst (λ (r : Refusal). (refusal_row r).value < 2 ^ 28) z h

  pub around_refusal : (r : Refusal) → (list_around text policy from to inner outer).answer ≡ Err r
      → (refusal_row r).value < 2 ^ 28
  around_refusal r e = go (intake_refusal text policy) refl
    where
      A : AfterBoth
      A = list_around text policy from to inner outer

      tell : {b : AfterBoth} → A ≡ b → A.answer ≡ b.answer
      tell f = ap (λ (a : AfterBoth). a.answer) f

      go : (o : Option Refusal) → intake_refusal text policy ≡ o → (refusal_row r).value < 2 ^ 28
      go (Some s) f = refused_is (tell (call.intake s f)) (omega (arith, intake_small text policy s f)) e
      go None f =
          let h = (passed-accepted text policy f).short in
          ⊎_elim
          (λ (i : inside_number text policy from to ≤ length inner / row_bytes). ⊎_elim
          (λ (s : sharing_number text policy from to ≤ length outer / row_bytes).
          let z : ◌≡◌ {A = Result ListedAround Refusal}
          (Ok (record { inside = (inside_number text policy from to); sharing = (sharing_number text policy from to) })) (Err r) =
          sym (tell (call.done f i s)) ∙ e in
          let y : ◌≡◌ {A = ℕ} 0 1 = cc in
          absurd (omega arith))
          (λ (s : length outer / row_bytes < sharing_number text policy from to).
          refused_is (tell (call.outer_short f i s)) (omega (arith, few_sharing text policy from to)) e)
          (le_or_lt (sharing_number text policy from to) (length outer / row_bytes)))
          (λ (i : length inner / row_bytes < inside_number text policy from to).
          refused_is (tell (call.inner_short f i)) (omega (arith, few-inside text policy from to)) e)
          (le_or_lt (inside_number text policy from to) (length inner / row_bytes))

-- ---- the nearest finding

pub nearest-small : (text policy : List ℕ) (o : ℕ) (row : List ℕ) → (optional_row (give_nearest text policy o row).answer).value ≤ most
unfolding give_nearest optional_row write_nearest
nearest-small text policy o row = go (intake_refusal text policy) refl
  where
    given : (f : Option Finding) → (optional_row (write_nearest o f row).answer).value ≤ most
    given None = omega arith
    given (Some f) = fits (leb nearest_bytes (length row))
      where
        fits : (b : Bool) → (optional_row (cond b (written (Ok (Some 1)) (bytes_of (nearest_numbers o f)) row)
            (unwritten (Err (TableTooShort 1)) row)).answer).value ≤ most
        fits true = omega arith
        fits false = omega arith

    go : (x : Option Refusal) → intake_refusal text policy ≡ x
        → (optional_row (or_else x (λ (r : Refusal). unwritten (Err r) row)
        (write_nearest o (nearest o (listed text policy)) row)
        ).answer).value ≤ most
    go (Some r) e = omega (arith, intake_small text policy r e)
    go None e = given (nearest o (listed text policy))
