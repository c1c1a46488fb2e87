-- `repair::repair_measured` meets its contract: the outcomes are those of Outcomes.
use mathlib.Core.Path.{◌∙◌}
use native.Mathlib.Nat.{zero-add}
use native.Mathlib.Omega.{arith}
use Rattle.repair.proofs.Outcomes.{copied, done, too_short}
use Rattle.repair.proofs.repair_measured.Goals as goal

pub returns-then-out-len : goal.returns-then-out-len
returns-then-out-len c =
    let m = c.measure-len in
    too_short c.args.text.now c.args.out.now c.requires _ m.ensures.len c.if-out-len.true

pub returns-then-replaced-eq0 : goal.returns-then-replaced-eq0
returns-then-replaced-eq0 c =
    let w = c.write_bytes in
    let m = c.measure-len in
    copied c.args.text.now c.args.out.now c.requires _ _ m.ensures.len m.ensures.replaced c.if-replaced-eq0.true
    (omega (arith, c.if-out-len.false)) w.ensures.1

pub write_repaired-requires : goal.write_repaired-requires
write_repaired-requires c =
    let m = c.measure-len in
    (c.requires, omega (arith, m.ensures.len, c.if-out-len.false))

pub returns : goal.returns
returns c =
    let w = c.write_repaired.ensures in
    let m = c.measure-len in
    done c.args.text.now c.args.out.now c.requires _ _ (w.len.ends ∙ zero-add _) w.replaced
    (omega (arith, m.ensures.len, c.if-out-len.false, w.len.ends)) w.len
