-- The outcome of reading a sheet: a law for each answer.
use Rattle.std.specs.Prelude.{Err, Result, ⊤}
use mathlib.Core.Path.{◌≡◌, ap, ap₂, sym, ◌∙◌}
use mathlib.Core.List.{List}
use Prim.Native.Nat.{ℕ, ◌≤◌, ◌<◌}
use lib.ListN.{length}
use borrow.Author.Tests.{le-leb, lt-leb}
use Rattle.base.specs.Output.{Wrote}
use Rattle.base.specs.Refusals.{After, text_limit, unwritten}
use Rattle.base.specs.declared.Refusal.{Refusal}
use Rattle.base.specs.declared.Refusal.TheVariants.{TextTooLong}
use Rattle.policy.specs.PolicyBytes.{PolicyValue, policy_bytes}
use Rattle.policy.specs.declared.Policy.{Policy}
use Rattle.policy_sheet.specs.Calls.{read_call, write_result}
use Rattle.policy_sheet.specs.Meaning.{sheet_policy}
use Rattle.sheet_reading.specs.Tracking.{SetsHold, after_check, check_sheet, pieces_read}
use Rattle.sheet_reading.proofs.Checking.{checked-reading}
use Rattle.sheet_reading.proofs.PieceSets.{policy_of-pieces}

module _ (sheet out : List ℕ) where
  -- The policy's bytes, written or refused for a short output.
  pub meaning-written : {o : List ℕ} {p : Policy} {r : Result ℕ Refusal} → PolicyValue p → SetsHold (pieces_read sheet) p
      → Wrote (policy_bytes p) out o r
      → ◌≡◌ {A = After (Result ℕ Refusal) ℕ} (record { answer = r; buffer = o })
      (write_result (policy_bytes (sheet_policy (pieces_read sheet))) out)
  meaning-written {p = p} v h w =
      ap₂ (λ (a : Result ℕ Refusal) (b : List ℕ). record { answer = a; buffer = b }) w.answered.same w.buffer
      ∙ ap (λ (q : Policy). write_result (policy_bytes q) out) (policy_of-pieces sheet p v h)

  pub read_1 : text_limit < length sheet → ◌≡◌ {A = After (Result ℕ Refusal) ℕ} (unwritten (Err TextTooLong) out) (read_call sheet out)
  unfolding read_call
  read_1 h = sym (rw (lt-leb (length sheet) text_limit h))

  pub read_checked : {x : Result ⊤ Refusal} (y : Result ⊤ Refusal) → length sheet ≤ text_limit → x ≡ check_sheet sheet → x ≡ y
      → after_check y (sheet_policy (pieces_read sheet)) out ≡ read_call sheet out
  unfolding read_call
  read_checked y h e f =
      ap (λ (z : Result ⊤ Refusal). after_check z (sheet_policy (pieces_read sheet)) out) (sym f ∙ e)
      ∙ sym (simp (le-leb (length sheet) text_limit h) (checked-reading sheet out))
