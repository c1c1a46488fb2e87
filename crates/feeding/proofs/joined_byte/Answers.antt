-- `feeding::joined_byte` meets its contract: a byte of the number, or of the piece.
use mathlib.Core.Path.{◌∙◌}
use native.Mathlib.Omega.{arith}
use Rattle.feeding.proofs.Joining.{byte_0, byte_1, byte_2, byte-after}
use Rattle.feeding.proofs.joined_byte.Goals as goal

pub returns-then-n-k : goal.returns-then-n-k
returns-then-n-k c =
    let x = c.args in c.byte_at.ensures ∙ byte-after x.rest x.piece.now x.n x.k
    c.if-n-k.true

pub returns-then-k-eq0 : goal.returns-then-k-eq0
returns-then-k-eq0 c =
    let x = c.args in c.low_byte.ensures ∙ byte_0 x.rest x.piece.now x.n x.k
    c.if-n-k.false c.if-k-eq0.true

pub returns-then-k-eq1 : goal.returns-then-k-eq1
returns-then-k-eq1 c =
    let x = c.args in c.low_byte-then-k-eq1.ensures ∙ byte_1 x.rest x.piece.now x.n x.k
    c.if-n-k.false c.if-k-eq1.true

pub returns : goal.returns
returns c =
    let x = c.args in c.low_byte-2.ensures ∙ byte_2 x.rest x.piece.now x.n x.k
    c.if-n-k.false (omega (arith, c.requires))
