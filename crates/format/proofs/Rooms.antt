-- Under the default policy a formatted text has at most five halves of the message's bytes. So formatting into a buffer of that length is
-- never refused with number 8.
use Rattle.std.specs.Prelude.{Result, Option, Some, None}
use mathlib.Core.Path.{◌≡◌, refl, sym, ap, ◌∙◌, subst}
use mathlib.Core.Bool.{Bool, true, false}
use mathlib.Core.List.{List}
use Prim.Native.Nat.{ℕ, ◌*◌, ◌≤◌}
use native.Mathlib.Omega.{arith}
use lib.ListN.{drop, length}
use lib.Seq.{take-append_seam}
use borrow.Author.Tests.{le-leb}
use Rattle.base.specs.Refusals.{After}
use Rattle.base.specs.declared.Refusal.{Refusal}
use Rattle.formatter.specs.Format.{format, formatted, same_bytes}
use Rattle.formatter.specs.Intake.{intake_refusal}
use Rattle.formatter.specs.Theorems.{IntakeComesFirst}
use Rattle.formatter.proofs.Formatting.{format_is, format_tests, same_true}
use Rattle.formatter.proofs.Outcomes.{comes_first}
use Rattle.formatter.proofs.Passing.{passed-accepted}
use Rattle.room.specs.Theorems.{FiveHalves}
use Rattle.room.proofs.Claims.{five_halves}
use Rattle.room.proofs.Reached.{default_read}
use Rattle.format.specs.Output.{AnswerMeans, policy}

module _ (message : List ℕ) where
  -- The answer of a call has its meaning.
  abbrev pub IsAnswer : After (Result (Option ℕ) Refusal) ℕ → Type 0
  IsAnswer a = AnswerMeans message a.answer a.buffer

  tested : (out : List ℕ) (same : Bool) → intake_refusal message policy ≡ None → same_bytes (formatted message policy) message ≡ same
      → IsAnswer (format_tests same true (formatted message policy) out)
  tested out true passed e = (passed, sym (same_true (formatted message policy) message e))
  tested out false passed e = (passed, take-append_seam (formatted message policy) (drop (length (formatted message policy)) out))

  pub answers : (out : List ℕ) → 5 * length message ≤ 2 * length out → IsAnswer (format message policy out)
  unfolding IntakeComesFirst FiveHalves
  answers out h = go (intake_refusal message policy) refl
    where
      F : List ℕ
      F = formatted message policy

      go : (o : Option Refusal) → intake_refusal message policy ≡ o → IsAnswer (format message policy out)
      go (Some r) e = subst IsAnswer (sym ((comes_first message policy r e).0 out)) e
      go None e =
          let a = passed-accepted message policy e in
          let f : length F ≤ length out = omega (arith, h, five_halves message policy default_read) in
          subst IsAnswer
          (sym (format_is policy message out a ∙ ap (λ (fits : Bool). format_tests (same_bytes F message) fits F out)
          (le-leb (length F) (length out) f)))
          (tested out (same_bytes F message) e refl)
