use mathlib.Core.Path.{◌≡◌, refl, ap, sym, ◌∙◌}
use Prim.Native.Nat.{ℕ, ◌+◌, ◌%◌}
use native.Mathlib.Omega.{arith}
use Rattle.base.specs.Sums.{capped}
use Rattle.utf8.proofs.Packed.{packed_step, packed_stop}
use Rattle.analysis.specs.Helpers.{slot_length}
use Rattle.analysis.specs.Counts.{capped_sum}
use Rattle.analysis.proofs.CellsAt.{selectors_end}
use Rattle.analysis.proofs.Measuring.{measuring_begin, measuring_cell, measuring_done, measuring_plain, slot-few}
use Rattle.replacing.proofs.measure.measure_cells.Goals as goal

pub loop-policy-init : goal.loop-policy-init
loop-policy-init c =
    let r = c.consume_presentation_selectors-count in
    measuring_begin r.result r.ensures c.unsanctioned-counts.ensures

pub returns-then-packed-eq0 : goal.returns-then-packed-eq0
returns-then-packed-eq0 c =
    let l = c.loop-policy in
    let d = c.decode-packed in
    let both = measuring_done l.invariant (packed_stop c.args.text.now l.at d.result d.ensures c.if-packed-eq0.true) in
    record { counts = both.0; len = both.1 }

pub overflow_add-after : goal.overflow_add-after
overflow_add-after c =
    let l = c.loop-policy in
    let d = c.decode-packed in
    let k = packed_step c.args.text.now l.at d.result d.ensures
    c.if-packed-eq0.false in
    omega (arith, k.room)

pub overflow_add-width : goal.overflow_add-width
overflow_add-width c = omega (arith, c.slot_len.ensures, slot-few c.cell_outcome-end.result.outcome.slot)

pub loop-policy-smaller-then-has_variation_sequence_by_block : goal.loop-policy-smaller-then-has_variation_sequence_by_block
loop-policy-smaller-then-has_variation_sequence_by_block c =
    let x = c.args in
    let l = c.loop-policy in
    let d = c.decode-packed in
    let k = packed_step x.text.now l.at d.result d.ensures
    c.if-packed-eq0.false in
    omega (arith, k.some, k.room, c.cell_outcome-end.ensures.end)

pub loop-policy-smaller : goal.loop-policy-smaller
loop-policy-smaller c =
    let x = c.args in
    let l = c.loop-policy in
    let d = c.decode-packed in
    let k = packed_step x.text.now l.at d.result d.ensures c.if-packed-eq0.false in
    omega (arith, k.some, k.room, c.selectors_end-end.ensures)

pub loop-policy-preserved : goal.loop-policy-preserved
loop-policy-preserved c =
    let x = c.args in
    let l = c.loop-policy in
    let d = c.decode-packed in
    let k = packed_step x.text.now l.at d.result d.ensures c.if-packed-eq0.false in
    let e = c.selectors_end-end in
    let v = sym c.has_variation_sequence_by_block.ensures
    ∙ c.if-has_variation_sequence_by_block.false in
    let a = ap (capped_sum l.counts) c.unsanctioned.ensures in
    rw (c.add-counts-else-has_variation_sequence_by_block.ensures, a, c.add_count-len-else-has_variation_sequence_by_block.ensures)
    (measuring_plain l.invariant k (omega
    (arith, c.well_formed.0.0)) v
    e.result _ (e.ensures ∙ selectors_end x.text.now (l.at + d.result % 8)) refl)

pub loop-policy-preserved-then-has_variation_sequence_by_block : goal.loop-policy-preserved-then-has_variation_sequence_by_block
loop-policy-preserved-then-has_variation_sequence_by_block c =
    let x = c.args in
    let l = c.loop-policy in
    let d = c.decode-packed in
    let k = packed_step x.text.now l.at d.result d.ensures c.if-packed-eq0.false in
    let o = c.cell_outcome-end in
    let n : c.add_count-len.result ≡ capped (l.len + (d.result % 8 + slot_length o.result.outcome.slot)) =
    c.add_count-len.ensures ∙ ap (λ (m : ℕ). capped (l.len + (d.result % 8 + m))) c.slot_len.ensures in
    rw (c.add-counts.ensures, n)
    (measuring_cell l.invariant k (omega (arith, c.well_formed.0.0))
    o.result.outcome o.result.end o.ensures.outcome o.ensures.end)
