-- The word, the number and the value.
use Rattle.std.proofs.Common.{arith, ap, ◌∙◌, List, [], ◌∷◌, map, ℕ, ◌≤◌}
use Rattle.base.specs.Refusals.{returned}
use Rattle.base.proofs.Writer.{put_then}
use Rattle.message_io.specs.Lines.{with_blanks, decimal, line, refusal_line}
use Rattle.message_io.proofs.Texts.{front, line_put}
use Rattle.message_io.proofs.line.refusal_line.Goals as goal

-- The word `refused`.
abbrev word : List ℕ
word = 0x72 ∷ 0x65 ∷ 0x66 ∷ 0x75 ∷ 0x73 ∷ 0x65 ∷ 0x64 ∷ []

pub returns-clause-out_after : goal.returns-clause-out_after
unfolding refusal_line with_blanks
returns-clause-out_after c =
    let x = c.args.refusal in
    let p = c.put_bytes-at.ensures in
    let n = c.number in
    let q = c.put_number-at.ensures in
    let v = c.put_returned-at.ensures in
    let s = c.put_bytes in
    let short : s.result ≤ 210 = omega (arith, p.ends, q.1, v.1, s.ensures.ends) in
    let w = front (line_put (map decimal (n.result ∷ returned x)) p (put_then q.0 v.0) s.ensures) (omega (arith, short)) in
    w.1.0 ∙ ap (λ (k : ℕ). line (word ∷ map decimal (k ∷ returned x))) n.ensures.table

pub returns-clause-out_unchanged : goal.returns-clause-out_unchanged
unfolding with_blanks
returns-clause-out_unchanged c =
    let x = c.args.refusal in
    let p = c.put_bytes-at.ensures in
    let n = c.number in
    let q = c.put_number-at.ensures in
    let v = c.put_returned-at.ensures in
    let s = c.put_bytes in
    let short : s.result ≤ 210 = omega (arith, p.ends, q.1, v.1, s.ensures.ends) in
    (front (line_put (map decimal (n.result ∷ returned x)) p (put_then q.0 v.0) s.ensures) (omega (arith, short))).1.1
