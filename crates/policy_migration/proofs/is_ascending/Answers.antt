use mathlib.Core.Path.{refl}
use native.Mathlib.Omega.{arith}
use Rattle.policy.specs.PolicyBytes.{numbers_of}
use Rattle.policy_migration.proofs.Coding.{ascends, falls, many-numbers, next-pair}
use Rattle.policy_migration.proofs.is_ascending.Goals as goal

pub loop-j-init : goal.loop-j-init
loop-j-init c = (omega arith, refl, λ i l m. absurd (omega arith))

pub returns-then-number_at : goal.returns-then-number_at
returns-then-number_at c =
    let x = c.args in let l = c.loop-j in
    falls (numbers_of x.entries.now) l.j (omega arith) (omega (arith, many-numbers x.entries.now))
    (omega (arith, c.number_at.ensures, c.number_at-in-loop-j.ensures))

pub loop-j-preserved : goal.loop-j-preserved
loop-j-preserved c =
    let x = c.args in let l = c.loop-j in (
      omega arith,
      l.invariant.1,
      next-pair (numbers_of x.entries.now) l.j (omega arith) l.invariant.2
          (omega (arith, c.number_at.ensures, c.number_at-in-loop-j.ensures)),
    )

pub returns : goal.returns
returns c =
    let x = c.args in let l = c.loop-j in
    ascends (numbers_of x.entries.now) (λ i m. l.invariant.2 i (omega (arith, many-numbers x.entries.now))
    (omega (arith, many-numbers x.entries.now)))
