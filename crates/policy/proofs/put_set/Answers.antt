use mathlib.Core.Path.{◌≡◌, ap}
use native.Mathlib.Omega.{arith}
use lib.ListN.{drop, drop_of_length-le, length}
use Rattle.base.proofs.Numbers.{word_room, word-written}
use Rattle.base.specs.Words.{bytes_of}
use Rattle.base.proofs.Writer.{begin, finish}
use Rattle.policy.proofs.put_set.Goals as goal

pub loop-i-init : goal.loop-i-init
loop-i-init c =
    let x = c.args in
    let ws = x.set.bits in
    let six : length ws ≡ 6 = c.well_formed.1.1.0.1.1.0.1.0.1 in
    (six, begin (bytes_of ws) x.start x.out.now c.requires)

pub overflow_add-at : goal.overflow_add-at
overflow_add-at c =
    let l = c.loop-i in
    let x = c.args in
    let r = word_room x.set.bits x.out.now l.out x.start l.at l.i (omega arith) l.invariant.1 in
    omega arith

pub loop-i-preserved : goal.loop-i-preserved
loop-i-preserved c =
    let l = c.loop-i in
    let x = c.args in (
      l.invariant.0,
      word-written x.set.bits x.out.now l.out x.start l.at l.i (omega arith) l.invariant.1 _
          c.write_word.ensures.1,
    )

pub shape_of-out : goal.shape_of-out
shape_of-out c = c.loop-i.invariant.1.same

pub returns : goal.returns
unfolding bytes_of
returns c =
    let l = c.loop-i in
    let x = c.args in
    let ws = x.set.bits in
    finish (bytes_of ws) x.start x.out.now (bytes_of (drop l.i ws)) l.invariant.1
    (ap bytes_of (drop_of_length-le ws {i = l.i} (omega arith)))
