-- The bytes that were read lie at the offset, and the others are unchanged.
use Rattle.std.proofs.Common.{arith, subst, sym, take}
use Rattle.std.specs.Io.KnownBytes.{Consumes}
use Rattle.message_io.proofs.Reading.{around_piece, piece-there}
use Rattle.message_io.proofs.read_piece.Goals as goal

pub returns-in-Ok-clause-stored : goal.returns-in-Ok-clause-stored
returns-in-Ok-clause-stored g c =
    let w = c.write_bytes in
    let b = c.in-Ok.ensures.bound in
    let xs = take c.in-Ok.count c.read.new.buf in
    let a = around_piece c.args.buf.now w.new.out xs c.args.from b.1 (omega (arith, b.0)) w.ensures.1 in
    (omega arith, omega (arith, b.0), a.0, a.1)

pub returns-in-Ok-clause-given : goal.returns-in-Ok-clause-given
returns-in-Ok-clause-given g c h =
    let w = c.write_bytes in
    let b = c.in-Ok.ensures.bound in
    let xs = take c.in-Ok.count c.read.new.buf in
    let e = piece-there c.args.buf.now w.new.out xs c.args.from b.1 (omega (arith, b.0)) w.ensures.1 in
    subst (Consumes _ _) (sym e) c.in-Ok.ensures.bytes.0
