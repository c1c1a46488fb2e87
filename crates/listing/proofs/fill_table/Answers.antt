-- `listing::fill_table` meets its contract.
use mathlib.Core.Path.{sym, ◌∙◌}
use native.Mathlib.Omega.{arith}
use lib.ListN.{length-map}
use Rattle.base.proofs.TableBytes.{no_rows, rows-refused, rows-room, rows_written}
use Rattle.policy.specs.PolicyBytes.{policy_of}
use Rattle.analysis.specs.Findings.{findings_from}
use Rattle.formatter.specs.Findings.{finding_row}
use Rattle.formatter.specs.List.{row_bytes, row_numbers}
use Rattle.formatter.proofs.RowBytes.{length_row}
use Rattle.formatter.proofs.Steps.{rows_from}
use Rattle.listing.proofs.fill_table.Goals as goal

pub returns-then-findings-eq0 : goal.returns-then-findings-eq0
returns-then-findings-eq0 c =
    let x = c.args in
    let p = policy_of x.policy.now in
    let t = x.text.now in
    let n = c.requires ∙ sym (length-map (findings_from p t 0) (finding_row p t)) in
    no_rows row_numbers row_bytes length_row (omega arith) (rows_from p t 0) x.table.now n c.if-findings-eq0.true

pub returns-then-table-findings : goal.returns-then-table-findings
returns-then-table-findings c =
    let x = c.args in
    let p = policy_of x.policy.now in
    let t = x.text.now in
    let n = c.requires ∙ sym (length-map (findings_from p t 0) (finding_row p t)) in
    rows-refused row_numbers row_bytes length_row (omega arith) (rows_from p t 0) x.table.now n (omega arith)

pub put_findings-requires : goal.put_findings-requires
put_findings-requires c =
    let x = c.args in
    let p = policy_of x.policy.now in
    let t = x.text.now in
    let n = c.requires ∙ sym (length-map (findings_from p t 0) (finding_row p t)) in
    rows-room row_numbers row_bytes length_row (omega arith) (rows_from p t 0) x.table.now n (omega arith)

pub returns : goal.returns
returns c =
    let x = c.args in
    let p = policy_of x.policy.now in
    let t = x.text.now in
    let n = c.requires
    ∙ sym (length-map (findings_from p t 0) (finding_row p t)) in
    rows_written row_numbers row_bytes length_row (omega arith) (rows_from p t 0) x.table.now n (omega arith)
    c.put_findings.ensures
