use Rattle.std.proofs.Common.{arith, rules}
use Rattle.message_io.proofs.Reading.{after-pieces, given-more}
use Rattle.message_io.proofs.read_message.Goals as goal

pub loop-len-preserved : goal.loop-len-preserved
loop-len-preserved g c =
    let l = c.loop-len in
    let s = c.read_some in
    let m = c.in-More.ensures in
    record {
      within = omega (arith, m.stored.1);
      same = search rules;
      unchanged = after-pieces _ l.buf s.new.buf l.len _ l.invariant.unchanged m.stored.3;
      given = given-more _ _ _ l.buf s.new.buf l.len _ l.invariant.given m.stored.2 m.given;
    }
