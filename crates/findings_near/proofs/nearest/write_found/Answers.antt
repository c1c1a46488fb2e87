-- `findings_near::nearest::write_found` meets its contract.
use mathlib.Core.Path.{subst}
use native.Mathlib.Omega.{arith}
use Rattle.findings_near.specs.Helpers.{HasByte}
use Rattle.findings_near.proofs.NearestPass.{none-given, row-given, row-short}
use Rattle.findings_near.proofs.nearest.write_found.Goals as goal

pub returns-in_default : goal.returns-in_default
returns-in_default c = let x = c.args in none-given x.offset x.row.now c.in_default.is

pub returns-then-row-lt-NEAREST_BYTES : goal.returns-then-row-lt-NEAREST_BYTES
returns-then-row-lt-NEAREST_BYTES c =
    let x = c.args in
    row-short x.offset c.in-Some.finding x.row.now c.in-Some.is c.if-row-lt-NEAREST_BYTES.true

pub distance_to-distance-requires : goal.distance_to-distance-requires
distance_to-distance-requires c = subst HasByte c.in-Some.is c.requires

pub put_nearest-requires : goal.put_nearest-requires
put_nearest-requires c = omega (arith, c.if-row-lt-NEAREST_BYTES.false)

pub returns : goal.returns
returns c =
    let x = c.args in
    row-given x.offset c.in-Some.finding x.row.now c.in-Some.is (omega (arith, c.if-row-lt-NEAREST_BYTES.false))
    c.distance_to-distance.ensures c.put_nearest.ensures
