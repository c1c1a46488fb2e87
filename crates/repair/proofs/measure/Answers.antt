use mathlib.Core.Path.{refl, ap}
use native.Mathlib.Omega.{arith}
use lib.ListN.{length}
use Rattle.repair.proofs.Fronts.{ended, kept, replaced}
use Rattle.repair.proofs.Repairing.{stretches, times}
use Rattle.repair.proofs.measure.Goals as goal

pub overflow_sub-len : goal.overflow_sub-len
overflow_sub-len c =
    let l = c.loop-at in
    let t = c.args.text.now in
    let e = c.valid_end-stop in
    let k = kept t l.at e.result l.invariant.0 e.ensures in
    k.forward

pub overflow_add-len : goal.overflow_add-len
overflow_add-len c =
    let l = c.loop-at in
    let t = c.args.text.now in
    let e = c.valid_end-stop in
    let k = kept t l.at e.result l.invariant.0 e.ensures in
    omega (arith, c.requires, l.invariant, k.longer, times (stretches t))

pub returns-then-text-stop : goal.returns-then-text-stop
returns-then-text-stop c =
    let l = c.loop-at in
    let t = c.args.text.now in
    let e = c.valid_end-stop in
    let k = kept t l.at e.result l.invariant.0 e.ensures in
    let x = ended t e.result c.if-text-stop.true in
    record {
      len = omega (arith, l.invariant, k.longer, ap length x.bytes);
      replaced = omega (arith, l.invariant, k.number, x.number);
    }

pub overflow_add-len-in-loop-at : goal.overflow_add-len-in-loop-at
overflow_add-len-in-loop-at c =
    let l = c.loop-at in
    let t = c.args.text.now in
    let e = c.valid_end-stop in
    let k = kept t l.at e.result l.invariant.0 e.ensures in
    let r = replaced t e.result _ k.room (k.stops c.if-text-stop.false) refl in
    omega (arith, c.requires, l.invariant, k.longer, r.longer, times (stretches t))

pub overflow_add-replaced : goal.overflow_add-replaced
overflow_add-replaced c =
    let l = c.loop-at in
    let t = c.args.text.now in
    let e = c.valid_end-stop in
    let k = kept t l.at e.result l.invariant.0 e.ensures in
    let r = replaced t e.result _ k.room (k.stops c.if-text-stop.false) refl in
    omega (arith, c.requires, l.invariant, k.number, r.number, times (stretches t))

pub overflow_add-at : goal.overflow_add-at
overflow_add-at c =
    let l = c.loop-at in
    let t = c.args.text.now in
    let e = c.valid_end-stop in
    let k = kept t l.at e.result l.invariant.0 e.ensures in
    let r = replaced t e.result c.bad_width.result k.room (k.stops c.if-text-stop.false) c.bad_width.ensures in
    omega (arith, c.requires, r.room)

pub loop-at-smaller : goal.loop-at-smaller
loop-at-smaller c =
    let l = c.loop-at in
    let t = c.args.text.now in
    let e = c.valid_end-stop in
    let k = kept t l.at e.result l.invariant.0 e.ensures in
    let r = replaced t e.result c.bad_width.result k.room (k.stops c.if-text-stop.false) c.bad_width.ensures in
    omega (arith, k.forward, r.some, r.room)

pub loop-at-preserved : goal.loop-at-preserved
loop-at-preserved c =
    let l = c.loop-at in
    let t = c.args.text.now in
    let e = c.valid_end-stop in
    let k = kept t l.at e.result l.invariant.0 e.ensures in
    let r = replaced t e.result c.bad_width.result k.room (k.stops c.if-text-stop.false) c.bad_width.ensures in
    omega (arith, l.invariant, k.longer, k.number, r.room, r.longer, r.number)
