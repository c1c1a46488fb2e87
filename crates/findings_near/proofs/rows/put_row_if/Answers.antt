-- `findings_near::rows::put_row_if` meets its contract.
use native.Mathlib.Omega.{arith}
use Rattle.base.proofs.Writer.{put_no}
use Rattle.base.specs.Words.{bytes_of}
use Rattle.base.proofs.TableBytes.{row_put}
use Rattle.formatter.specs.List.{row_numbers}
use Rattle.formatter.proofs.RowBytes.{length_row}
use Rattle.findings_near.proofs.NextRows.{put_yes}
use Rattle.findings_near.proofs.rows.put_row_if.Goals as goal

pub returns-then-not-wanted : goal.returns-then-not-wanted
returns-then-not-wanted c =
    let x = c.args in
    put_no x.table.now x.to (bytes_of (row_numbers x.finding)) c.if-not-wanted.true

pub overflow_add-result : goal.overflow_add-result
overflow_add-result c = omega (arith, c.requires c.if-not-wanted.false, c.well_formed.1.0.1)

pub returns : goal.returns
returns c =
    let x = c.args in
    let w = c.write_numbers in
    let y = c.if-not-wanted.false in
    put_yes y
    (row_put x.table.now w.new.out x.to c.row_numbers-numbers.ensures
    (length_row x.finding) (c.requires y)
    w.ensures.1)
