use mathlib.Core.Path.{sym, ◌∙◌}
use Prim.Native.Nat.{◌+◌, ◌-◌, ◌/◌}
use native.Mathlib.Omega.{arith}
use Rattle.policy.specs.PolicyBytes.{numbers_of}
use Rattle.policy_migration.proofs.Coding.{found_at, found_none, goes_down, goes_up, many-numbers}
use Rattle.policy_migration.proofs.index_of.Goals as goal

pub loop-lo-init : goal.loop-lo-init
loop-lo-init c =
    let n = many-numbers c.args.entries.now in
    (omega arith, omega arith, λ i l k. absurd (omega arith), λ i l k. absurd (omega arith))

pub returns-then-n-c : goal.returns-then-n-c
returns-then-n-c c =
    let x = c.args in
    let l = c.loop-lo in
    let xs = numbers_of x.entries.now in
    let n = many-numbers x.entries.now in
    sym (found_at xs c.requires x.c (l.lo + (l.hi - l.lo) / 2) (omega arith) (sym c.number_at-n.ensures ∙ c.if-n-c.true))

pub loop-lo-preserved-then-n-c-2 : goal.loop-lo-preserved-then-n-c-2
loop-lo-preserved-then-n-c-2 c =
    let x = c.args in
    let l = c.loop-lo in
    let xs = numbers_of x.entries.now in
    let n = many-numbers x.entries.now in (
      l.invariant.0,
      omega arith,
      goes_up xs c.requires x.c (l.lo + (l.hi - l.lo) / 2) (omega arith)
          (omega (arith, c.number_at-n.ensures, c.if-n-c-2.true)),
      l.invariant.3,
    )

pub loop-lo-preserved : goal.loop-lo-preserved
loop-lo-preserved c =
    let x = c.args in
    let l = c.loop-lo in
    let xs = numbers_of x.entries.now in
    let n = many-numbers x.entries.now in (
      omega arith,
      omega arith,
      l.invariant.2,
      goes_down xs c.requires x.c (l.lo + (l.hi - l.lo) / 2) (omega arith)
          (λ e. c.if-n-c.false (c.number_at-n.ensures ∙ e))
          (omega (arith, c.number_at-n.ensures, c.if-n-c-2.false)),
    )

pub returns : goal.returns
returns c =
    let x = c.args in
    let l = c.loop-lo in
    let xs = numbers_of x.entries.now in
    let n = many-numbers x.entries.now in
    sym (found_none xs c.requires x.c l.lo l.hi (omega arith) l.invariant.2 l.invariant.3)
