-- `feeding::joined_char` meets its contract: four bytes decide which character begins there.
use native.Mathlib.Omega.{arith}
use mathlib.Core.List.{◌++◌}
use Rattle.base.specs.Words.{little_endian}
use Rattle.feeding.proofs.Joining.{char_four, char-none, joined_length}
use Rattle.feeding.proofs.joined_char.Goals as goal

pub returns-then-n-piece : goal.returns-then-n-piece
returns-then-n-piece c =
    let x = c.args in
    char-none (little_endian x.n x.rest ++ x.piece.now) x.k
    (omega (arith, joined_length x.n x.rest x.piece.now, c.if-n-piece.true))

pub returns : goal.returns
returns c =
    let x = c.args in
    char_four (little_endian x.n x.rest ++ x.piece.now) x.k
    (omega (arith, joined_length x.n x.rest x.piece.now, c.if-n-piece.false))
    c.joined_byte.ensures c.joined_byte-2.ensures
    c.joined_byte-3.ensures
    c.joined_byte-4.ensures c.decode.ensures
