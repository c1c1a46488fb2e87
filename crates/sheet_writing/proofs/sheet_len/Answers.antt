-- `sheet_writing::sheet_len` meets its contract: the lengths of the four lines, and the four bytes 0A.
use native.Mathlib.Omega.{arith}
use Rattle.sheet_writing.proofs.Lines.{line_length, sheet_length}
use Rattle.sheet_writing.proofs.sheet_len.Goals as goal

pub returns : goal.returns
returns c =
    let p = c.args.policy in
    let i = c.line_len-first.ensures in
    let j = c.line_len-second.ensures in
    let k = c.line_len-third.ensures in
    let l = c.line_len-fourth.ensures in (
      sheet_length p _ _ _ _ (line_length _ _ i.0) (line_length _ _ j.0) (line_length _ _ k.0) (line_length _ _ l.0),
      omega (arith, i.1, j.1, k.1, l.1),
    )
