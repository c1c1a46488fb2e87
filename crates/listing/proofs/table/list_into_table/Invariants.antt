-- `listing::table::list_into_table` meets its contract. The loop's invariant: the findings before the place are stored, the count held is
-- the position of the offset, and the findings from the offset on are the rows after those.
use Rattle.std.proofs.Common.{◌≡◌, ◌≤◌, drop, length}
use Rattle.positions.specs.Positions.{AtPosition}
use Rattle.formatter.proofs.Steps.{rows_from}
use Rattle.listing.proofs.Storing.{stored}
use Rattle.listing.proofs.table.list_into_table.Given as goal

abbrev pub invariant-loop-place : goal.invariant-loop-place
invariant-loop-place l =
    (l.place ≤ length (rows_from l.read l.text 0))
    × AtPosition l.text l.at l.before
    × (rows_from l.read l.text l.at ≡ drop l.place (rows_from l.read l.text 0))
    × (l.table ≡ stored (rows_from l.read l.text 0) l.fn.table l.place)
