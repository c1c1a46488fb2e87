use mathlib.Core.Path.{◌≡◌, refl}
use mathlib.Core.List.{List, ◌∷◌}
use Prim.Native.Nat.{ℕ, ◌+◌, ◌<◌}
use native.Mathlib.Numerals.{add-one}
use native.Mathlib.Omega.{arith}
use lib.ListN.{drop, drop_of_length-le, get_or, length}
use lib.Seq.{drop-cons}
use Rattle.base.proofs.Writer.{Writing, begin, byte_put, byte-room, finish}
use Rattle.base.proofs.put_bytes.Goals as goal

next : (xs : List ℕ) (i : ℕ) → i < length xs → drop i xs ≡ get_or xs i 0 ∷ drop (i + 1) xs
next xs i h = rw (add-one, drop-cons xs i 0) refl

has-place : {bytes out₀ out : List ℕ} {start at : ℕ} (i : ℕ) → i < length bytes → Writing bytes start out₀ (drop i bytes) out at
    → at < length out
has-place {bytes} {out₀} {out} {start} i h w = byte-room bytes start out₀ (drop i bytes) w (next bytes i h)

pub loop-byte-init : goal.loop-byte-init
loop-byte-init c = let a = c.args in begin a.bytes.now a.start a.out.now c.requires

pub bounds-out-at : goal.bounds-out-at
bounds-out-at c = let l = c.loop-byte in has-place l.byte-index c.loop-byte-test.true l.invariant

pub overflow_add-at : goal.overflow_add-at
overflow_add-at c = let l = c.loop-byte in omega (arith, has-place l.byte-index c.loop-byte-test.true l.invariant)

pub loop-byte-preserved : goal.loop-byte-preserved
loop-byte-preserved c =
    let l = c.loop-byte in
    let a = c.args in
    let b = a.bytes.now in
    byte_put b a.start a.out.now (drop l.byte-index b) l.invariant (next b l.byte-index c.loop-byte-test.true)

pub returns : goal.returns
returns c =
    let l = c.loop-byte in
    let a = c.args in
    let b = a.bytes.now in
    (finish b a.start a.out.now (drop l.byte-index b) l.invariant
    (drop_of_length-le b {i = l.byte-index} (omega (arith, c.loop-byte-test.false)))).bytes
