-- `feeding::ascii::put_ascii` meets its contract.
use native.Mathlib.Omega.{arith}
use Rattle.feeding.proofs.Copying.{ascii_at, ascii_put, ascii_room}
use Rattle.feeding.proofs.ascii.put_ascii.Goals as goal

pub put_each-requires : goal.put_each-requires
put_each-requires c =
    let x = c.args in
    ascii_room x.out.now x.piece.now x.base x.last c.put_base-at.ensures c.copied_len-n.ensures.1
    c.requires.2

pub overflow_add-result : goal.overflow_add-result
overflow_add-result c =
    let x = c.args in
    let n = c.copied_len-n in
    omega (
      arith,
      ascii_at x.out.now x.piece.now x.base x.last c.put_base-at.ensures n.ensures.1,
      n.ensures.1,
      c.requires.2,
    )

pub returns : goal.returns
returns c =
    let x = c.args in
    let n = c.copied_len-n in
    ascii_put x.out.now x.piece.now x.base x.last c.put_base-at.ensures n.ensures.1 n.ensures.0
    c.put_each.ensures
