-- The word, and the numbers with a blank before each.
use Rattle.std.proofs.Common.{arith, map}
use Rattle.message_io.specs.Lines.{decimal, total_line}
use Rattle.message_io.proofs.Texts.{front, line_put}
use Rattle.message_io.proofs.line.total_line.Goals as goal

pub returns-clause-out_after : goal.returns-clause-out_after
unfolding total_line
returns-clause-out_after c =
    let p = c.put_bytes-at.ensures in
    let q = c.put_numbers-at.ensures in
    let s = c.put_bytes.ensures in
    (front (line_put (map decimal c.args.numbers.now) p q.0 s) (omega (arith, p.ends, q.1, s.ends))).1.0

pub returns-clause-out_unchanged : goal.returns-clause-out_unchanged
returns-clause-out_unchanged c =
    let p = c.put_bytes-at.ensures in
    let q = c.put_numbers-at.ensures in
    let s = c.put_bytes.ensures in
    (front (line_put (map decimal c.args.numbers.now) p q.0 s) (omega (arith, p.ends, q.1, s.ends))).1.1
