use mathlib.Core.Path.{◌≡◌, refl}
use mathlib.Core.List.{List, ◌∷◌}
use Prim.Native.Nat.{ℕ, ◌+◌, ◌<◌}
use native.Mathlib.Numerals.{add-one}
use native.Mathlib.Omega.{arith}
use lib.ListN.{drop, drop_of_length-le, get_or, length}
use lib.Seq.{drop-cons}
use Rattle.base.proofs.Writer.{Writing, begin, byte_put, byte-room, finish}
use Rattle.feeding.proofs.ascii.put_each.Goals as goal

next : (xs : List ℕ) (i : ℕ) → i < length xs → drop i xs ≡ get_or xs i 0 ∷ drop (i + 1) xs
next xs i h = rw (add-one, drop-cons xs i 0) refl

has-place : {bytes out₀ out : List ℕ} {start at : ℕ} (i : ℕ) → i < length bytes → Writing bytes start out₀ (drop i bytes) out at
    → at < length out
has-place {bytes} {out₀} {out} {start} i h w = byte-room bytes start out₀ (drop i bytes) w (next bytes i h)

pub loop-i-init : goal.loop-i-init
loop-i-init c =
    let a = c.args in
    (omega arith, begin a.bytes.now a.start a.out.now c.requires)

pub bounds-out-at : goal.bounds-out-at
bounds-out-at c = let l = c.loop-i in has-place l.i (omega arith) l.invariant.1

pub overflow_add-at : goal.overflow_add-at
overflow_add-at c = let l = c.loop-i in omega (arith, has-place l.i (omega arith) l.invariant.1)

pub loop-i-preserved : goal.loop-i-preserved
loop-i-preserved c =
    let l = c.loop-i in
    let a = c.args in
    let b = a.bytes.now in (
      omega arith,
      byte_put b a.start a.out.now (drop l.i b) l.invariant.1 (next b l.i (omega arith)),
    )

pub shape_of-out : goal.shape_of-out
shape_of-out c = c.loop-i.invariant.1.same

pub returns : goal.returns
returns c =
    let l = c.loop-i in
    let a = c.args in
    let b = a.bytes.now in
    (finish b a.start a.out.now (drop l.i b) l.invariant.1 (drop_of_length-le b {i = l.i} (omega arith))).bytes
