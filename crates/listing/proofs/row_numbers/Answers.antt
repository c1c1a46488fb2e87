-- `listing::row_numbers` meets its contract.
use mathlib.Core.Path.{refl}
use Rattle.formatter.specs.List.{row_numbers}
use Rattle.listing.proofs.row_numbers.Goals as goal

pub returns : goal.returns
unfolding row_numbers
returns c = refl
