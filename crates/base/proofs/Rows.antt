-- Different refusals have different rows, a refusal's number is never 0 or 255, and different answers have different rows.
use Rattle.std.specs.Prelude.{ℕ, ⊤, Option, None, Some, Result, Ok, Err}
use mathlib.Core.Path.{◌≡◌, refl, ap, sym, ◌∙◌}
use mathlib.Core.Bool.{cond}
use Prim.Native.Nat.{◌≤◌}
use native.Mathlib.Omega.{arith}
use lib.Dec.{eqb}
use Rattle.base.specs.Refusals.{RefusalRow, refusal_row}
use Rattle.base.specs.Answers.{answer_row, check_row, found_row, optional_row}
use Rattle.base.specs.Theorems.{RefusalRowsDistinct}
use Rattle.base.specs.declared.Refusal.{Refusal}
use Rattle.base.specs.declared.Refusal.TheVariants.{
  BadClientOrNumber,
  BadDecision,
  DoesNotFit,
  FeedEnded,
  NoFinding,
  NotAPolicy,
  NotASheet,
  NotAnEntry,
  NotAnEntryList,
  NotWellFormed,
  OtherVersion,
  OutputTooShort,
  TableTooShort,
  TextTooLong,
  UnfinishedCharacter,
  WrongNumberOfDecisions,
}

-- The refusal whose row is given.
refusal_of : RefusalRow → Refusal
refusal_of w =
    cond (eqb w.number 1) TextTooLong
    (cond (eqb w.number 2) NotAPolicy
    (cond (eqb w.number 3) (NotWellFormed w.value)
    (cond (eqb w.number 4) NoFinding
    (cond (eqb w.number 5) (WrongNumberOfDecisions w.value)
    (cond (eqb w.number 6) (BadDecision w.value)
    (cond (eqb w.number 7) (TableTooShort w.value)
    (cond (eqb w.number 8) (OutputTooShort w.value)
    (cond (eqb w.number 9) FeedEnded
    (cond (eqb w.number 10) UnfinishedCharacter
    (cond (eqb w.number 11) (NotASheet w.value)
    (cond (eqb w.number 12) (NotAnEntry w.value)
    (cond (eqb w.number 13) BadClientOrNumber
    (cond (eqb w.number 14) (DoesNotFit w.value)
    (cond (eqb w.number 15) OtherVersion NotAnEntryList))))))))))))))

refusal_of-row : (r : Refusal) → refusal_of (refusal_row r) ≡ r
unfolding refusal_of
refusal_of-row TextTooLong = refl
refusal_of-row NotAPolicy = refl
refusal_of-row (NotWellFormed n) = refl
refusal_of-row NoFinding = refl
refusal_of-row (WrongNumberOfDecisions n) = refl
refusal_of-row (BadDecision n) = refl
refusal_of-row (TableTooShort n) = refl
refusal_of-row (OutputTooShort n) = refl
refusal_of-row FeedEnded = refl
refusal_of-row UnfinishedCharacter = refl
refusal_of-row (NotASheet n) = refl
refusal_of-row (NotAnEntry n) = refl
refusal_of-row BadClientOrNumber = refl
refusal_of-row (DoesNotFit n) = refl
refusal_of-row OtherVersion = refl
refusal_of-row NotAnEntryList = refl

pub rows_distinct : RefusalRowsDistinct
unfolding RefusalRowsDistinct
rows_distinct r s e = sym (refusal_of-row r) ∙ ap refusal_of e ∙ refusal_of-row s

-- Every number is at least 1 and at most 254.
pub refusal_numbers : (r : Refusal) → (1 ≤ (refusal_row r).number) × ((refusal_row r).number ≤ 254)
refusal_numbers TextTooLong = (omega arith, omega arith)
refusal_numbers NotAPolicy = (omega arith, omega arith)
refusal_numbers (NotWellFormed n) = (omega arith, omega arith)
refusal_numbers NoFinding = (omega arith, omega arith)
refusal_numbers (WrongNumberOfDecisions n) = (omega arith, omega arith)
refusal_numbers (BadDecision n) = (omega arith, omega arith)
refusal_numbers (TableTooShort n) = (omega arith, omega arith)
refusal_numbers (OutputTooShort n) = (omega arith, omega arith)
refusal_numbers FeedEnded = (omega arith, omega arith)
refusal_numbers UnfinishedCharacter = (omega arith, omega arith)
refusal_numbers (NotASheet n) = (omega arith, omega arith)
refusal_numbers (NotAnEntry n) = (omega arith, omega arith)
refusal_numbers BadClientOrNumber = (omega arith, omega arith)
refusal_numbers (DoesNotFit n) = (omega arith, omega arith)
refusal_numbers OtherVersion = (omega arith, omega arith)
refusal_numbers NotAnEntryList = (omega arith, omega arith)

-- ---- rows of answers: a refusal's number is from 1 to 254, so it differs from 0 (success) and 255 (nothing)

pub num : {r s : RefusalRow} → r ≡ s → r.number ≡ s.number
num e = ap (λ (r : RefusalRow). r.number) e

pub val : {r s : RefusalRow} → r ≡ s → r.value ≡ s.value
val e = ap (λ (r : RefusalRow). r.value) e

pub refusals : (r s : Refusal) → refusal_row r ≡ refusal_row s → r ≡ s
unfolding RefusalRowsDistinct
refusals = rows_distinct

pub check_rows : (a b : Result ⊤ Refusal) → check_row a ≡ check_row b → a ≡ b
unfolding check_row
check_rows (Ok x) (Ok y) e = refl
check_rows (Ok x) (Err r) e = absurd (omega (arith, num e, refusal_numbers r))
check_rows (Err r) (Ok x) e = absurd (omega (arith, num e, refusal_numbers r))
check_rows (Err r) (Err s) e = ap Err (refusals r s e)

pub answer-rows : (a b : Result ℕ Refusal) → answer_row a ≡ answer_row b → a ≡ b
unfolding answer_row
answer-rows (Ok n) (Ok m) e = ap Ok (val e)
answer-rows (Ok n) (Err r) e = absurd (omega (arith, num e, refusal_numbers r))
answer-rows (Err r) (Ok n) e = absurd (omega (arith, num e, refusal_numbers r))
answer-rows (Err r) (Err s) e = ap Err (refusals r s e)

pub optional-rows : (a b : Result (Option ℕ) Refusal) → optional_row a ≡ optional_row b → a ≡ b
unfolding optional_row
optional-rows (Ok None) (Ok None) e = refl
optional-rows (Ok None) (Ok (Some m)) e = absurd (omega (arith, num e))
optional-rows (Ok None) (Err r) e = absurd (omega (arith, num e, refusal_numbers r))
optional-rows (Ok (Some n)) (Ok None) e = absurd (omega (arith, num e))
optional-rows (Ok (Some n)) (Ok (Some m)) e = ap (λ (k : ℕ). Ok (Some k)) (val e)
optional-rows (Ok (Some n)) (Err r) e = absurd (omega (arith, num e, refusal_numbers r))
optional-rows (Err r) (Ok None) e = absurd (omega (arith, num e, refusal_numbers r))
optional-rows (Err r) (Ok (Some m)) e = absurd (omega (arith, num e, refusal_numbers r))
optional-rows (Err r) (Err s) e = ap Err (refusals r s e)

pub found-rows : (a b : Option ℕ) → found_row a ≡ found_row b → a ≡ b
unfolding found_row
found-rows None None e = refl
found-rows None (Some m) e = absurd (omega (arith, num e))
found-rows (Some n) None e = absurd (omega (arith, num e))
found-rows (Some n) (Some m) e = ap Some (val e)
