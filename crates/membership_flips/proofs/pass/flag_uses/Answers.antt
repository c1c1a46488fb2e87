use native.Mathlib.Omega.{arith}
use Rattle.utf8.proofs.Packed.{packed_step, packed_stop}
use Rattle.membership_flips.proofs.Flagging.{flags_begin, flags_end, flags_on, flags_skip}
use Rattle.membership_flips.proofs.pass.flag_uses.Goals as goal

pub loop-at-init : goal.loop-at-init
loop-at-init c =
    let x = c.args in
    flags_begin x.text.now x.flags.now c.requires.0 c.requires.1

pub shape_of-flags-then-packed-eq0 : goal.shape_of-flags-then-packed-eq0
shape_of-flags-then-packed-eq0 c = omega (arith, c.loop-at.invariant.many, c.requires.0)

pub returns-then-packed-eq0 : goal.returns-then-packed-eq0
returns-then-packed-eq0 c =
    let l = c.loop-at in
    let n = c.skip_plain-start in
    let d = c.decode-packed in
    let t = c.args.text.now in let both = flags_end (flags_skip l.invariant n.ensures)
    (packed_stop t n.result d.result d.ensures c.if-packed-eq0.true) in record { flags = both.0; valid = both.1 }

pub overflow_add-end : goal.overflow_add-end
overflow_add-end c =
    let n = c.skip_plain-start in
    let d = c.decode-packed in
    let t = c.args.text.now in
    omega (arith, (packed_step t n.result d.result d.ensures c.if-packed-eq0.false).room)

pub flag_char-requires : goal.flag_char-requires
flag_char-requires c = c.loop-at.invariant.many

pub loop-at-smaller : goal.loop-at-smaller
loop-at-smaller c =
    let n = c.skip_plain-start in
    let d = c.decode-packed in
    let t = c.args.text.now in
    let k = packed_step t n.result d.result d.ensures c.if-packed-eq0.false in
    omega (arith, k.some, k.room, n.ensures.advances.on)

pub loop-at-preserved : goal.loop-at-preserved
loop-at-preserved c =
    let l = c.loop-at in
    let n = c.skip_plain-start in
    let d = c.decode-packed in
    let t = c.args.text.now in
    flags_on (flags_skip l.invariant n.ensures) (packed_step t n.result d.result d.ensures c.if-packed-eq0.false)
    c.flag_char.ensures
