-- The value of the answer to listing flips is small: there are at most 1,416 of them.
use Rattle.base.specs.Answers.{answer_row}
use Rattle.std.specs.Prelude.{Ok, Err}
use mathlib.Core.Path.{refl}
use mathlib.Core.Bool.{Bool, true, false, cond}
use mathlib.Core.List.{List}
use Prim.Native.Nat.{ℕ, ◌/◌, ◌≤◌}
use native.Mathlib.Omega.{arith}
use lib.Dec.{leb}
use lib.ListN.{length}
use Rattle.base.specs.Refusals.{unwritten, written}
use Rattle.base.specs.Tables.{fill_table, rows_bytes}
use Rattle.base.specs.declared.Refusal.TheVariants.{TableTooShort}
use Rattle.formatter.specs.Intake.{intake_refusal}
use Rattle.membership_flips.specs.Flips.{Membership, list_tips, tip_numbers, tipping}
use Rattle.membership_flips.proofs.Listing.{few-tips}
use Rattle.tilghorz.proofs.SmallAnswers.{intake_small, most, tested}

pub tips-small : (text policy table : List ℕ) → (answer_row (list_tips text policy table).answer).value ≤ most
unfolding list_tips answer_row fill_table
tips-small text policy table =
    tested answer_row Err (λ r. refl) (intake_refusal text policy) table _ (intake_small text policy)
    (λ _. go (leb (length T) (length table / 24)) (few-tips text policy))
  where
    T : List Membership
    T = tipping text policy

    go : (b : Bool) → length T ≤ 1416
        → (answer_row (cond b (written (Ok (length T)) (rows_bytes tip_numbers T) table)
        (unwritten (Err (TableTooShort (length T))) table)).answer).value ≤ most
    go true h = omega arith
    go false h = omega arith
