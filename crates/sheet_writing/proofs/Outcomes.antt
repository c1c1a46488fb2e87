-- The outcome of writing a sheet: a law for each answer.
use Rattle.std.specs.Prelude.{Err, None, Ok, Result, Some}
use mathlib.Core.Path.{◌≡◌, ap, ap₂, refl, sym, ◌∙◌}
use mathlib.Core.Bool.{Bool, cond, true, false}
use mathlib.Core.List.{List}
use Prim.Native.Nat.{ℕ}
use Rattle.base.specs.Output.{Wrote}
use Rattle.base.specs.Refusals.{After, or_else, unwritten}
use Rattle.base.specs.declared.Refusal.{Refusal}
use Rattle.policy.specs.PolicyBytes.{is_policy, policy_fault, policy_of, policy_or_fault, policy_refusal}
use Rattle.policy.specs.declared.Policy.{Policy}
use Rattle.policy_sheet.specs.Calls.{write_call, write_result}
use Rattle.policy_sheet.specs.Writer.{write_sheet}

module _ (policy out : List ℕ) where
  abbrev after_read : Result Policy Refusal → After (Result ℕ Refusal) ℕ
  after_read (Ok p) = write_result (write_sheet p) out
  after_read (Err r) = unwritten (Err r) out

  by_read : write_call policy out ≡ after_read (policy_or_fault policy)
  unfolding write_call policy_refusal policy_or_fault
  by_read = go (is_policy policy)
    where
      go : (t : Bool) → or_else (cond t None (Some (policy_fault policy))) (λ (r : Refusal). unwritten (Err r) out)
          (write_result (write_sheet (policy_of policy)) out) ≡ after_read (cond t (Ok (policy_of policy)) (Err (policy_fault policy)))
      go true = refl
      go false = refl

  pub write-refused : {r : Refusal} → policy_or_fault policy ≡ Err r → unwritten (Err r) out ≡ write_call policy out
  write-refused e = sym (by_read ∙ ap after_read e)

  pub write_done : {o : List ℕ} {p : Policy} {r : Result ℕ Refusal} → policy_or_fault policy ≡ Ok p → Wrote (write_sheet p) out o r
      → ◌≡◌ {A = After (Result ℕ Refusal) ℕ} (record { answer = r; buffer = o }) (write_call policy out)
  write_done e h =
      ap₂ (λ (a : Result ℕ Refusal) (b : List ℕ). record { answer = a; buffer = b }) h.answered.same h.buffer
      ∙ sym (by_read ∙ ap after_read e)
