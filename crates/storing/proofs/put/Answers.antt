-- `put`: the word has room.
use Prim.Native.Nat.{◌+◌, ◌*◌, ◌≤◌}
use native.Mathlib.Omega.{arith}
use lib.ListN.{length}
use Rattle.base.proofs.Words.{word_put}
use Rattle.storing.proofs.put.Goals as goal

pub returns : goal.returns
returns c =
    let x = c.args in
    let room : 8 * x.k + 8 ≤ length x.store.now = omega (arith, c.requires.0, c.requires.1) in
    (word_put x.store.now _ (8 * x.k) x.w room c.write_word.ensures.1).bytes
