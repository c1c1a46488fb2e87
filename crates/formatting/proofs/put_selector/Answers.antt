-- `formatting::put_selector` meets its contract: it puts three bytes, or none.
use mathlib.Core.Path.{ap, ◌∙◌}
use Prim.Native.Nat.{◌+◌}
use native.Mathlib.Omega.{arith}
use lib.ListN.{length, length-set, set}
use lib.Seq.{sets}
use Rattle.text_pass.specs.Changes.{selector_bytes}
use Rattle.formatting.proofs.Surveying.{no_bytes, selector_put, three_bytes}
use Rattle.formatting.proofs.put_selector.Goals as goal

pub bounds-out-at : goal.bounds-out-at
bounds-out-at c =
    let x = c.args in
    let q = c.requires in
    let n = three_bytes x.selector _ c.in-Some.is in
    omega (arith, q, n)

pub bounds-out-at-in-Some : goal.bounds-out-at-in-Some
bounds-out-at-in-Some c =
    let x = c.args in
    let q = c.requires in
    let n = three_bytes x.selector _ c.in-Some.is in
    omega (arith, q, n, length-set x.out.now x.at 0xEF)

pub bounds-out-at-in-Some-2 : goal.bounds-out-at-in-Some-2
bounds-out-at-in-Some-2 c =
    let x = c.args in
    let q = c.requires in
    let n = three_bytes x.selector _ c.in-Some.is in
    omega (arith, q, n, length-set x.out.now x.at 0xEF, length-set (set x.out.now x.at 0xEF) (x.at + 1) 0xB8)

pub returns-in-None : goal.returns-in-None
returns-in-None c =
    let x = c.args in
    let n = no_bytes x.selector c.in-None.is in
    record { ends = omega (arith, ap length n); bytes = ap (sets x.out.now x.at) n }

pub returns-in-Some : goal.returns-in-Some
returns-in-Some c =
    let x = c.args in
    selector_put x.out.now x.at _ x.selector (ap selector_bytes c.in-Some.is ∙ c.last_byte.ensures)
