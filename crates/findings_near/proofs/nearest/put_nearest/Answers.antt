-- `findings_near::nearest::put_nearest` meets its contract.
use mathlib.Core.Path.{refl}
use mathlib.Core.List.{[], ◌∷◌}
use native.Mathlib.Omega.{arith}
use Rattle.base.proofs.Numbers.{length_bytes_of_lem, put_both}
use Rattle.base.proofs.TableBytes.{row_put}
use Rattle.formatter.specs.List.{row_numbers}
use Rattle.formatter.proofs.RowBytes.{length_row}
use Rattle.findings_near.proofs.nearest.put_nearest.Goals as goal

pub put_row_if-to-requires : goal.put_row_if-to-requires
put_row_if-to-requires c w = omega (arith, c.requires)

pub overflow_add-result : goal.overflow_add-result
overflow_add-result c =
    omega (arith, c.put_row_if-to.ensures.ends, length_row c.args.finding, c.requires)

pub returns : goal.returns
returns c =
    let x = c.args in
    let p = c.put_row_if-to in
    let w = c.write_numbers in
    put_both (row_numbers x.finding) (x.distance ∷ []) p.ensures
    (row_put p.new.table w.new.out _ refl (length_bytes_of_lem (x.distance ∷ []))
    (omega (arith, p.ensures.ends, length_row x.finding, c.requires)) w.ensures.1)
