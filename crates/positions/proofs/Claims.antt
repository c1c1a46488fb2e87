-- The proof of each statement of specs/Theorems.antt.
use mathlib.Core.Path.{refl}
use native.Mathlib.Omega.{arith}
use Rattle.utf8.specs.Rfc3629.{chars, fold_chars, fold_step, read_char, read_four, utf8_1, utf8_2, utf8_3, utf8_4}
use Rattle.positions.specs.Positions.{
  count_between,
  counted,
  is_lead,
  is_long_lead,
  leads,
  long_leads_of,
  position_at,
  stretch,
  text_count,
  units,
  utf16_units,
}
use Rattle.positions.specs.Theorems.{
  BoundaryMeans,
  CountedBetween,
  CountedByBytes,
  CountsAdd,
  CountsAddUp,
  CountsBounded,
  PositionCounted,
  PositionExamples,
  PositionsDiffer,
  UnitExamples,
}
use Rattle.positions.proofs.Counting as Counting
use Rattle.positions.proofs.Boundaries as Boundaries

pub counted_by_bytes : CountedByBytes
unfolding CountedByBytes
counted_by_bytes s w = Counting.counted-by_bytes w

pub counted_between : CountedBetween
unfolding CountedBetween
counted_between text from to a b h = (Counting.between_well_formed text from to a b h, Counting.counted-between text from to a b h)

pub positions_differ : PositionsDiffer
unfolding PositionsDiffer
positions_differ = Counting.positions_differ

pub position_counted : PositionCounted
unfolding PositionCounted
position_counted = Counting.position-counted

pub boundary_means : BoundaryMeans
unfolding BoundaryMeans
boundary_means = Boundaries.boundary_means

pub counts_add : CountsAdd
unfolding CountsAdd
counts_add = Counting.counts_add

pub counts_bounded : CountsBounded
unfolding CountsBounded counted
counts_bounded s = let h = Counting.counts_bounded s in (h.0, omega (arith, h.1))

pub counts_add_up : CountsAddUp
unfolding CountsAddUp
counts_add_up = Counting.counts_add_up

pub unit_examples : UnitExamples
unfolding UnitExamples utf16_units
unit_examples = refl

pub position_examples : PositionExamples
unfolding PositionExamples position_at text_count units utf16_units chars fold_chars fold_step read_char read_four utf8_1 utf8_2 utf8_3
    utf8_4
    count_between counted stretch leads long_leads_of is_lead is_long_lead
position_examples = (refl, refl, refl)
