-- The first number, and the others with a blank before each.
use Rattle.std.proofs.Common.{arith, ◌∷◌, map}
use Rattle.base.proofs.Writer.{put_then}
use Rattle.message_io.specs.Lines.{with_blanks, decimal, finding_line}
use Rattle.message_io.proofs.Texts.{front, line_put}
use Rattle.message_io.proofs.line.finding_line.Goals as goal

pub returns-clause-out_after : goal.returns-clause-out_after
unfolding finding_line with_blanks
returns-clause-out_after c =
    let x = c.args in
    let p = c.put_decimal-at.ensures in
    let q = c.put_number-at.ensures in
    let v = c.put_numbers-at.ensures in
    let s = c.put_bytes.ensures in
    (front (line_put (map decimal (x.end ∷ x.counts.now)) p.0 (put_then q.0 v.0) s) (omega (arith, p.1, q.1, v.1, s.ends))).1.0

pub returns-clause-out_unchanged : goal.returns-clause-out_unchanged
unfolding with_blanks
returns-clause-out_unchanged c =
    let x = c.args in
    let p = c.put_decimal-at.ensures in
    let q = c.put_number-at.ensures in
    let v = c.put_numbers-at.ensures in
    let s = c.put_bytes.ensures in
    (front (line_put (map decimal (x.end ∷ x.counts.now)) p.0 (put_then q.0 v.0) s) (omega (arith, p.1, q.1, v.1, s.ends))).1.1
