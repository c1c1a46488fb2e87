use Rattle.std.proofs.Common.{◌≡◌, ℕ, length, subst}
use Rattle.membership_flips.specs.Pass.{NoEntryBetween}
use native.Mathlib.Omega.{arith}
use Rattle.membership_flips.proofs.Skipping.{none_ascii, none_here, none-on}
use Rattle.membership_flips.proofs.plain.skip_ascii.Goals as goal

pub loop-at-init : goal.loop-at-init
loop-at-init c = none_here _

pub returns-then-not-is_ascii_plain : goal.returns-then-not-is_ascii_plain
returns-then-not-is_ascii_plain c = c.loop-at.invariant

pub loop-at-preserved : goal.loop-at-preserved
loop-at-preserved c =
    let l = c.loop-at in
    let q = c.is_ascii_plain.ensures c.if-not-is_ascii_plain.false in
    none-on l.invariant (none_ascii l.at (omega (arith, c.loop-at-test.true)) q.0 q.1)

pub returns : goal.returns
returns c =
    let x = c.args in
    let e : c.loop-at.at ≡ length x.text.now = omega (arith, c.loop-at-test.false, c.loop-at.auto.at-end c.requires) in
    subst (λ (n : ℕ). NoEntryBetween x.text.now x.from n) e c.loop-at.invariant
