use mathlib.Core.Path.{refl}
use Prim.Native.Nat.{◌-◌}
use native.Mathlib.Omega.{arith}
use lib.ListN.{drop, take}
use Rattle.base.proofs.Writer.{begin, finish, put, room}
use Rattle.repair.specs.Repaired.{repaired, replacement_bytes}
use Rattle.repair.proofs.Fronts.{ended, kept, replaced}
use Rattle.repair.proofs.Repairing.{stretches, times}
use Rattle.repair.proofs.write_repaired.Goals as goal

pub loop-at-init : goal.loop-at-init
loop-at-init c = (omega arith, begin _ 0 _ (omega (arith, c.requires)), omega arith)

pub slice_bounds-put-end : goal.slice_bounds-put-end
slice_bounds-put-end c =
    let e = c.valid_end-stop in
    let l = c.loop-at in
    (kept c.args.text.now l.at e.result l.invariant.0 e.ensures).room

pub put-len-requires : goal.put-len-requires
put-len-requires c =
    let e = c.valid_end-stop in
    let l = c.loop-at in
    let x = c.args in
    let t = x.text.now in
    let k = kept t l.at e.result l.invariant.0 e.ensures in
    room (repaired t) 0 x.out.now _ (take (e.result - l.at) (drop l.at t)) _ l.invariant.1 k.bytes

pub returns-then-text-stop : goal.returns-then-text-stop
returns-then-text-stop c =
    let e = c.valid_end-stop in
    let l = c.loop-at in
    let x = c.args in
    let t = x.text.now in
    let k = kept t l.at e.result l.invariant.0 e.ensures in
    let w = put (repaired t) 0 x.out.now {xs = take (e.result - l.at) (drop l.at t)} _ _ l.invariant.1
    c.put-len.ensures k.bytes in
    let z = ended t e.result c.if-text-stop.true in
    record { len = finish (repaired t) 0 x.out.now _ w z.bytes; replaced = omega (arith, l.invariant.2, k.number, z.number) }

pub put_replacement-len-requires : goal.put_replacement-len-requires
put_replacement-len-requires c =
    let e = c.valid_end-stop in
    let l = c.loop-at in
    let x = c.args in
    let t = x.text.now in
    let k = kept t l.at e.result l.invariant.0 e.ensures in
    let w = put (repaired t) 0 x.out.now {xs = take (e.result - l.at) (drop l.at t)} _ _ l.invariant.1
    c.put-len.ensures k.bytes in
    let r = replaced t e.result _ k.room (k.stops c.if-text-stop.false) refl in
    room (repaired t) 0 x.out.now _ replacement_bytes _ w r.bytes

pub overflow_add-replaced : goal.overflow_add-replaced
overflow_add-replaced c =
    let e = c.valid_end-stop in
    let l = c.loop-at in
    let t = c.args.text.now in
    let k = kept t l.at e.result l.invariant.0 e.ensures in
    let r = replaced t e.result _ k.room (k.stops c.if-text-stop.false) refl in
    omega (arith, c.requires.0, l.invariant.2, k.number, r.number, times (stretches t))

pub overflow_add-at : goal.overflow_add-at
overflow_add-at c =
    let e = c.valid_end-stop in
    let l = c.loop-at in
    let t = c.args.text.now in
    let k = kept t l.at e.result l.invariant.0 e.ensures in
    let bad = k.stops c.if-text-stop.false in
    omega (arith, (replaced t e.result c.bad_width.result k.room bad c.bad_width.ensures).room)

pub loop-at-smaller : goal.loop-at-smaller
loop-at-smaller c =
    let e = c.valid_end-stop in
    let l = c.loop-at in
    let t = c.args.text.now in
    let k = kept t l.at e.result l.invariant.0 e.ensures in
    let bad = k.stops c.if-text-stop.false in
    let r = replaced t e.result c.bad_width.result k.room bad c.bad_width.ensures in
    omega (arith, k.forward, r.some, r.room)

pub loop-at-preserved : goal.loop-at-preserved
loop-at-preserved c =
    let e = c.valid_end-stop in
    let l = c.loop-at in
    let x = c.args in
    let t = x.text.now in
    let k = kept t l.at e.result l.invariant.0 e.ensures in
    let w = put (repaired t) 0 x.out.now {xs = take (e.result - l.at) (drop l.at t)} _ _ l.invariant.1 c.put-len.ensures
    k.bytes in
    let bad = k.stops c.if-text-stop.false in
    let r = replaced t e.result c.bad_width.result k.room bad c.bad_width.ensures in (
      r.room,
      put (repaired t) 0 x.out.now {xs = replacement_bytes} _ _ w c.put_replacement-len.ensures r.bytes,
      omega (arith, l.invariant.2, k.number, r.number),
    )
