use mathlib.Core.Path.{ap, subst, ◌∙◌}
use mathlib.Core.Bool.{cond}
use mathlib.Core.List.{List}
use Prim.Native.Nat.{ℕ, ◌+◌, ◌*◌}
use native.Mathlib.Omega.{arith}
use lib.ListN.{drop, drop_of_length-le}
use lib.Seq.{sets}
use Rattle.base.proofs.Numbers.{word-written}
use Rattle.base.specs.Words.{bytes_of, has_room, word_bytes}
use Rattle.base.proofs.Writer.{Writing, finish}
use Rattle.policy.specs.PolicyBytes.{numbers_of}
use Rattle.store.specs.Bytes.{new_bytes, new_words}
use Rattle.store.proofs.Beginning.{few_reserves, new_length}
use Rattle.storing.proofs.Beginning.{begin_new}
use Rattle.storing.proofs.put_new.Goals as goal

pub loop-k-init : goal.loop-k-init
loop-k-init c =
    let x = c.args in
    let f = few_reserves x.reserves.now c.requires.1 in
    begin_new x.capacity (numbers_of x.reserves.now) x.store.now f c.requires.2

pub new_word-requires : goal.new_word-requires
new_word-requires c = (c.requires.0, omega arith)

pub shape_of-store : goal.shape_of-store
shape_of-store c = c.loop-k.invariant.same

pub returns : goal.returns
unfolding bytes_of new_bytes
returns c =
    let x = c.args in
    let l = c.loop-k in
    let ws = new_words x.capacity (numbers_of x.reserves.now) in
    let m = new_length x.capacity (numbers_of x.reserves.now) (few_reserves x.reserves.now c.requires.1) in
    let d = ap bytes_of (drop_of_length-le ws {i = l.k} (omega arith)) in
    (finish (bytes_of ws) 0 x.store.now (bytes_of (drop l.k ws)) l.invariant d).bytes

pub loop-k-preserved : goal.loop-k-preserved
loop-k-preserved c =
    let l = c.loop-k in
    let x = c.args in
    let ws = new_words x.capacity (numbers_of x.reserves.now) in
    let m = new_length x.capacity (numbers_of x.reserves.now) (few_reserves x.reserves.now c.requires.1) in
    let put : ℕ → List ℕ = λ w. cond (has_room l.store (8 * l.k)) (sets l.store (8 * l.k) (word_bytes w)) l.store in
    let e = c.write_word.ensures.1 ∙ ap put c.new_word.ensures in
    subst (Writing (bytes_of ws) 0 x.store.now (bytes_of (drop (l.k + 1) ws)) _) (omega arith)
    (word-written ws x.store.now l.store 0 (8 * l.k) l.k (omega arith) l.invariant _ e)
