use mathlib.Core.Path.{ap, ◌∙◌}
use mathlib.Core.List.{List, map}
use Prim.Native.Nat.{◌+◌, ◌/◌, ◌%◌}
use native.Mathlib.Omega.{arith}
use lib.ListN.{drop}
use Rattle.base.proofs.Writer.{begin, finish, pass, put, room}
use Rattle.utf8.proofs.Packed.{packed_step, packed_stop}
use Rattle.emoji.specs.declared.presentation.Presentation.{Presentation}
use Rattle.analysis.specs.Cells.{Cell}
use Rattle.analysis.specs.Helpers.{cell_bytes}
use Rattle.analysis.specs.Decisions.{meaning}
use Rattle.analysis.proofs.CellsAt.{selectors_end, split_at}
use Rattle.analysis.proofs.Rendering.{bytes_from-cell, bytes_from-leading, bytes_from-none, used-few}
use Rattle.replacing.proofs.render.put_cells.Goals as goal

pub loop-policy-init : goal.loop-policy-init
loop-policy-init c =
    let x = c.args in
    let e = c.selectors_end-at.ensures ∙ selectors_end x.text.now 0 in (
      omega arith,
      ap (λ (a : List Presentation × List Cell). a.0) (split_at x.text.now 0 e),
      pass _ _ _ _ _ (begin _ _ _ (let h = c.requires in omega arith)) (bytes_from-leading x.policy x.text.now x.decisions.now 0 0 e),
    )

pub shape_of-out-then-packed-eq0 : goal.shape_of-out-then-packed-eq0
shape_of-out-then-packed-eq0 c = c.loop-policy.invariant.2.same

pub returns-then-packed-eq0 : goal.returns-then-packed-eq0
returns-then-packed-eq0 c =
    let x = c.args in
    let l = c.loop-policy in
    let d = c.decode-packed in
    finish _ _ _ _ l.invariant.2 (bytes_from-none x.policy x.text.now x.decisions.now l.at l.used
    (packed_stop x.text.now l.at d.result d.ensures c.if-packed-eq0.true))

pub overflow_add-at : goal.overflow_add-at
overflow_add-at c =
    let x = c.args in
    let l = c.loop-policy in
    let d = c.decode-packed in
    let k = packed_step x.text.now l.at d.result d.ensures c.if-packed-eq0.false in
    omega (arith, k.room)

pub put_cell-to-requires : goal.put_cell-to-requires
put_cell-to-requires c =
    let x = c.args in
    let l = c.loop-policy in
    let d = c.decode-packed in
    let k = packed_step x.text.now l.at d.result d.ensures c.if-packed-eq0.false in
    let o = c.cell_outcome-end in
    let f = bytes_from-cell x.policy x.text.now x.decisions.now l.at l.used k l.invariant.1 o.result.outcome
    o.result.end o.ensures.outcome o.ensures.end in (
      k.is_scalar_lem,
      room _ _ _ _ (cell_bytes (d.result / 8) o.result.outcome.slot (map meaning (drop l.used x.decisions.now))) _
          l.invariant.2 f,
    )

pub overflow_add-used : goal.overflow_add-used
overflow_add-used c =
    let x = c.args in
    let l = c.loop-policy in
    let d = c.decode-packed in
    let k = packed_step x.text.now l.at d.result d.ensures
    c.if-packed-eq0.false in
    omega (
      arith,
      k.some,
      k.room,
      l.invariant.0,
      c.well_formed.0.0,
      c.decisions_used-used.ensures,
      used-few c.cell_outcome-end.result.outcome.slot,
    )

pub loop-policy-smaller : goal.loop-policy-smaller
loop-policy-smaller c =
    let x = c.args in
    let l = c.loop-policy in
    let d = c.decode-packed in
    let k = packed_step x.text.now l.at d.result d.ensures
    c.if-packed-eq0.false in
    omega (arith, k.some, k.room, c.cell_outcome-end.ensures.end)

pub loop-policy-preserved : goal.loop-policy-preserved
loop-policy-preserved c =
    let x = c.args in
    let l = c.loop-policy in
    let d = c.decode-packed in
    let k = packed_step x.text.now l.at d.result d.ensures
    c.if-packed-eq0.false in
    let o = c.cell_outcome-end in
    let f = bytes_from-cell x.policy x.text.now x.decisions.now l.at l.used k l.invariant.1 o.result.outcome
    o.result.end o.ensures.outcome o.ensures.end in
    let n = c.decisions_used-used.ensures in (
      omega (arith, k.some, l.invariant.0, o.ensures.end, n, used-few o.result.outcome.slot),
      ap (λ (a : List Presentation × List Cell). a.0) (split_at x.text.now (l.at + d.result % 8) o.ensures.end),
      rw n (put _ _ _ _ _ l.invariant.2 c.put_cell-to.ensures f),
    )
