use mathlib.Core.Path.{ap, ◌∙◌}
use mathlib.Core.Bool.{cond}
use Prim.Native.Nat.{ℕ}
use native.Mathlib.Omega.{arith}
use lib.ListN.{drop, drop_of_length-le}
use lib.Seq.{sets}
use Rattle.base.specs.Words.{bytes_of, has_room, word_bytes}
use Rattle.base.proofs.Writer.{finish}
use Rattle.policy.specs.PolicyBytes.{policy_bytes}
use Rattle.base.proofs.Numbers.{word_room, word-written}
use Rattle.policy_migration.proofs.Putting.{Ws, begin_result, result_length}
use Rattle.policy_migration.proofs.put_policy.Goals as goal

pub loop-n-init : goal.loop-n-init
loop-n-init c =
    let x = c.args in
    begin_result x.entries.now x.policy.now x.out.now c.requires.0

pub new_word-requires : goal.new_word-requires
new_word-requires c = (
  omega arith,
  c.requires.1,
  c.requires.2,
)

pub overflow_add-at : goal.overflow_add-at
overflow_add-at c =
    let x = c.args in
    let l = c.loop-n in
    let m = result_length x.entries.now x.policy.now in
    let r = word_room (Ws x.entries.now x.policy.now) x.out.now l.out 0 l.at l.n (omega arith) l.invariant in
    omega arith

pub shape_of-out : goal.shape_of-out
shape_of-out c = c.loop-n.invariant.same

pub returns : goal.returns
unfolding bytes_of policy_bytes
returns c =
    let x = c.args in
    let l = c.loop-n in
    let m = result_length x.entries.now x.policy.now in
    (finish (bytes_of (Ws x.entries.now x.policy.now)) 0 x.out.now
    (bytes_of (drop l.n (Ws x.entries.now x.policy.now))) l.invariant
    (ap bytes_of (drop_of_length-le (Ws x.entries.now x.policy.now) {i = l.n} (omega arith)))).bytes

pub loop-n-preserved : goal.loop-n-preserved
loop-n-preserved c =
    let x = c.args in
    let l = c.loop-n in
    let m = result_length x.entries.now x.policy.now in
    word-written (Ws x.entries.now x.policy.now) x.out.now l.out 0 l.at l.n (omega arith) l.invariant _
    (c.write_word.ensures.1 ∙ ap (λ (w : ℕ). cond (has_room l.out l.at)
    (sets l.out l.at (word_bytes w)) l.out) c.new_word.ensures)
