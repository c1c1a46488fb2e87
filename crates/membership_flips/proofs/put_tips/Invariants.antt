-- `membership_flips::put_tips` meets its contract. The loop writes the rows from its number on.
use Rattle.base.proofs.Writer.{Writing}
use Rattle.base.specs.Tables.{rows_bytes}
use Rattle.membership_flips.specs.Flips.{tip_numbers}
use Rattle.membership_flips.specs.Pass.{tip_test}
use Rattle.membership_flips.proofs.Listing.{tipping_from}
use Rattle.membership_flips.proofs.put_tips.Given as goal

abbrev pub invariant-loop-n : goal.invariant-loop-n
invariant-loop-n l = Writing (rows_bytes tip_numbers (tipping_from (tip_test l.policy l.flags) 0)) 0 l.initial.table
    (rows_bytes tip_numbers (tipping_from (tip_test l.policy l.flags) l.n)) l.table l.at
