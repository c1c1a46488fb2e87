-- `scanner::char_class::peek` meets its contract: the decoded character, its class, and the offset after its bytes.
use native.Mathlib.Omega.{arith}
use Rattle.utf8.proofs.Packed.{packed_step, packed_stop}
use Rattle.scanner.proofs.Peek.{not_peeked, peeked}
use Rattle.scanner.proofs.char_class.peek.Goals as goal

pub returns-then-packed-eq0 : goal.returns-then-packed-eq0
returns-then-packed-eq0 c =
    let x = c.args in
    not_peeked x.text.now x.at
    (packed_stop x.text.now x.at c.decode-packed.result c.decode-packed.ensures c.if-packed-eq0.true)

pub overflow_add-end : goal.overflow_add-end
overflow_add-end c =
    let x = c.args in
    let d = c.decode-packed in
    let k = packed_step x.text.now x.at d.result d.ensures c.if-packed-eq0.false in
    omega (arith, k.room)

pub returns : goal.returns
returns c =
    let x = c.args in
    let d = c.decode-packed in
    let k = packed_step x.text.now x.at d.result d.ensures c.if-packed-eq0.false in
    peeked x.text.now x.at _ _ c.class_of-class.result k c.class_of-class.ensures
