use mathlib.Core.Path.{◌≡◌, sym, ◌∙◌}
use mathlib.Core.Bool.{false}
use Prim.Native.Nat.{ℕ, ◌*◌, ◌≤◌}
use native.Mathlib.Omega.{arith}
use borrow.Author.Count.{below_more}
use Rattle.policy_key_set.specs.Sets.{member}
use Rattle.policy.specs.PolicyBytes.{words_from}
use Rattle.policy_migration.proofs.Coding.{unused_found, unused-none}
use Rattle.policy_migration.proofs.no_unused.Goals as goal

pub loop-i-init : goal.loop-i-init
loop-i-init c = (omega arith, λ m l k. absurd (omega arith))

pub old_bit-requires : goal.old_bit-requires
old_bit-requires c = (omega arith, omega arith)

pub returns-then-old_bit : goal.returns-then-old_bit
returns-then-old_bit c =
    let x = c.args in let l = c.loop-i in
    unused_found (x.words * 64) x.count (λ (m : ℕ). member m (words_from x.words x.at x.policy.now)) l.i l.invariant.0
    (omega arith) (sym c.old_bit.ensures ∙ c.if-old_bit.true)

pub loop-i-preserved : goal.loop-i-preserved
loop-i-preserved c =
    let x = c.args in let l = c.loop-i in (
      omega arith,
      below_more (λ (m : ℕ). x.count ≤ m → member m (words_from x.words x.at x.policy.now) ≡ false)
          l.i l.invariant.1 (λ k. sym c.old_bit.ensures ∙ c.if-old_bit.false),
    )

pub returns : goal.returns
returns c =
    let x = c.args in let l = c.loop-i in
    unused-none (x.words * 64) x.count (λ (m : ℕ). member m (words_from x.words x.at x.policy.now))
    (λ m k h. l.invariant.1 m (omega arith) k)
