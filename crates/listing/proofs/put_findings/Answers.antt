use mathlib.Core.Path.{ap, ◌∙◌}
use mathlib.Core.List.{List, map}
use native.Mathlib.Omega.{arith}
use Rattle.base.specs.Tables.{rows_bytes}
use Rattle.base.specs.Words.{bytes_of}
use Rattle.base.proofs.Writer.{begin, finish, put, room}
use Rattle.policy.specs.PolicyBytes.{policy_of}
use Rattle.positions.proofs.Counting.{at_start}
use Rattle.scanner.specs.Spans.{Found}
use Rattle.text_pass.proofs.Passing.{over_none}
use Rattle.formatter.specs.Findings.{finding_row}
use Rattle.formatter.specs.List.{row_numbers}
use Rattle.listing.proofs.NextFindings.{finds_positions, finds_row, next_ahead, next_row}
use Rattle.formatter.proofs.RowBytes.{length_row}
use Rattle.formatter.proofs.Steps.{none_found, row_by, rows_from}
use Rattle.listing.proofs.put_findings.Goals as goal

pub loop-before-init : goal.loop-before-init
loop-before-init c =
    let x = c.args in (
      omega arith,
      at_start x.text.now (omega (arith, c.well_formed.0.1)),
      begin (rows_bytes row_numbers (rows_from (policy_of x.policy.now) x.text.now 0)) 0 x.table.now
          (omega (arith, c.requires)),
    )

pub shape_of-table-then-not-present : goal.shape_of-table-then-not-present
shape_of-table-then-not-present c = c.loop-before.invariant.2.same

pub returns-then-not-present : goal.returns-then-not-present
unfolding rows_bytes
returns-then-not-present c =
    let x = c.args in
    let p = policy_of x.policy.now in
    let t = x.text.now in
    let l = c.loop-before in
    let n = c.next_finding-start in
    finish (rows_bytes row_numbers (rows_from p t 0)) 0 x.table.now (rows_bytes row_numbers (rows_from p t l.at)) l.invariant.2
    (ap (λ (l : List Found). rows_bytes row_numbers (map (finding_row p t) l))
    ((over_none n.ensures.0).same
    ∙ none_found p t n.result.start (n.ensures.2 c.if-not-present.true).0))

pub put_row-to-requires : goal.put_row-to-requires
unfolding rows_bytes
put_row-to-requires c =
    let l = c.loop-before in
    let x = c.args in
    let p = policy_of x.policy.now in
    let t = x.text.now in
    let n = c.next_finding-start in
    let f = (n.ensures.1 c.if-not-present.false).2 (omega arith) in
    let a = finds_positions (over_none n.ensures.0) f.finds l.invariant.1 c.count_between.ensures
    c.add_counts-first.ensures c.count_between-in-loop-before.ensures c.add_counts-last.ensures in
    let s = next_row (over_none n.ensures.0) (finds_row f a.0 a.1) in
    let row = row_by n.result.start n.result.end n.result.counts c.add_counts-first.result c.add_counts-last.result in
    let r =
    room (rows_bytes row_numbers (rows_from p t 0)) 0 x.table.now (rows_bytes row_numbers (rows_from p t l.at)) (bytes_of (row_numbers row))
    (rows_bytes row_numbers (rows_from p t n.result.end)) l.invariant.2 (ap (rows_bytes row_numbers) s) in
    omega (arith, r, length_row row)

pub loop-before-smaller : goal.loop-before-smaller
loop-before-smaller c =
    let n = c.next_finding-start in
    let h = next_ahead (over_none n.ensures.0) (n.ensures.1 c.if-not-present.false).1 in
    omega (arith, h.some, h.room)

pub loop-before-preserved : goal.loop-before-preserved
unfolding rows_bytes
loop-before-preserved c =
    let l = c.loop-before in
    let x = c.args in
    let p = policy_of x.policy.now in
    let t = x.text.now in
    let n = c.next_finding-start in
    let f = (n.ensures.1 c.if-not-present.false).2 (omega arith) in
    let a = finds_positions (over_none n.ensures.0) f.finds l.invariant.1 c.count_between.ensures
    c.add_counts-first.ensures c.count_between-in-loop-before.ensures c.add_counts-last.ensures in
    let s = next_row (over_none n.ensures.0) (finds_row f a.0 a.1) in
    let h = next_ahead (over_none n.ensures.0) f.finds in (
      h.room,
      a.1,
      put (rows_bytes row_numbers (rows_from p t 0)) 0 x.table.now (rows_bytes row_numbers (rows_from p t l.at))
          (rows_bytes row_numbers (rows_from p t n.result.end)) l.invariant.2 c.put_row-to.ensures
          (ap (rows_bytes row_numbers) s),
    )
