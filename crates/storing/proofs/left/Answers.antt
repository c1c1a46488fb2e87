-- What is left fits a word.
use native.Mathlib.Omega.{arith}
use Rattle.storing.proofs.Sums.{left_fits, words_small}
use Rattle.storing.proofs.left.Goals as goal

pub overflow_add-result : goal.overflow_add-result
overflow_add-result c =
    let x = c.args in
    let h = left_fits x.store.now (words_small x.store.now (λ j. (c.type_inv.store j).fits)) x.c (omega arith) in
    omega arith
