-- `feeding::left_after` meets its contract: more than three bytes are not unfinished.
use native.Mathlib.Omega.{arith}
use Rattle.base.proofs.Words.{bytes_all}
use Rattle.feeding.proofs.Joining.{left-few, left-many, left-none}
use Rattle.feeding.proofs.left_after.Goals as goal

pub returns-then-len-eq0 : goal.returns-then-len-eq0
returns-then-len-eq0 c = let x = c.args in left-none x.n x.rest x.piece.now x.at c.requires.2 c.if-len-eq0.true

pub returns-then-len-gt3 : goal.returns-then-len-gt3
returns-then-len-gt3 c = let x = c.args in left-many x.n x.rest x.piece.now x.at c.requires.2 c.if-len-gt3.true

pub returns : goal.returns
returns c =
    let x = c.args in
    left-few x.n x.rest x.piece.now x.at c.requires.2
    c.if-len-gt3.false
    (bytes_all x.piece.now (λ j. omega (arith, (c.type_inv.piece j).fits)))
    c.joined_byte-a.ensures c.joined_byte-b.ensures
    c.joined_byte-d.ensures c.three-bytes.ensures c.is_unfinished-good.ensures
