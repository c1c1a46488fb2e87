use Rattle.policy.specs.PolicyBytes.{policy_of}
use mathlib.Core.List.{[]}
use native.Mathlib.Omega.{arith}
use borrow.Author.Rules.{rules}
use Rattle.text_pass.proofs.Staying.{stays_on}
use Rattle.text_pass.proofs.plain.skip_plain.Goals as goal

pub loop-at-init : goal.loop-at-init
loop-at-init c = λ p _. (c.skip_letters-at.ensures p).0

pub returns-then-not-bare : goal.returns-then-not-bare
returns-then-not-bare c = c.loop-at.invariant

pub returns-then-text-at-gt127 : goal.returns-then-text-at-gt127
returns-then-text-at-gt127 c = c.loop-at.invariant

pub skip_ascii-next-requires : goal.skip_ascii-next-requires
skip_ascii-next-requires c = (search rules, omega (arith, c.if-text-at-gt127.false))

pub returns-then-next-at : goal.returns-then-next-at
returns-then-next-at c = c.loop-at.invariant

pub loop-at-smaller : goal.loop-at-smaller
loop-at-smaller c =
    let l = c.loop-at in
    let a = c.skip_ascii-next.ensures in
    let s = c.skip_letters-at-in-loop-at.ensures in
    let q = (s (policy_of [])).0 in
    omega (arith, a.bounds.0, a.bounds.1, q.advances.on, q.advances.inside (omega (arith, a.bounds.1)), c.if-next-at.false)

pub loop-at-preserved : goal.loop-at-preserved
loop-at-preserved c =
    let l = c.loop-at in
    let a = c.skip_ascii-next.ensures in
    let s = c.skip_letters-at-in-loop-at.ensures in
    λ p h. stays_on (stays_on (l.invariant p h) (a.skips p (h c.if-not-bare.false)).0) (s p).0

pub returns : goal.returns
returns c = c.loop-at.invariant
