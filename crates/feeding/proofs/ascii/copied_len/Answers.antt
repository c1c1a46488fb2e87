-- `feeding::ascii::copied_len` meets its contract.
use mathlib.Core.Path.{ap, sym}
use mathlib.Core.Bool.{Bool, cond}
use Prim.Native.Nat.{◌-◌}
use native.Mathlib.Omega.{arith}
use borrow.Author.Tests.{eq-eqb, ne_eqb}
use Rattle.feeding.proofs.ascii.copied_len.Goals as goal

pub returns-then-last-eq0 : goal.returns-then-last-eq0
returns-then-last-eq0 c =
    let x = c.args in
    (sym (ap (λ (t : Bool). cond t x.len (x.len - 1)) (eq-eqb x.last 0 c.if-last-eq0.true)), omega arith)

pub returns : goal.returns
returns c =
    let x = c.args in
    (sym (ap (λ (t : Bool). cond t x.len (x.len - 1)) (ne_eqb x.last 0 c.if-last-eq0.false)), omega arith)
