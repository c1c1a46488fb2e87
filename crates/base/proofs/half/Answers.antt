-- `base::half` meets its contract: the number of four bytes is the sum of the bytes by their weights (`number_four`).
use native.Mathlib.Omega.{arith}
use lib.ListN.{drop}
use Rattle.base.proofs.Words.{number_four}
use Rattle.base.proofs.half.Goals as goal

pub returns : goal.returns
returns c =
    let x = c.args in
    let p = c.byte_at.ensures in
    let q = c.byte_at-2.ensures in
    let r = c.byte_at-3.ensures in
    let s = c.byte_at-4.ensures in
    omega (arith, number_four (drop x.at x.s.now))
