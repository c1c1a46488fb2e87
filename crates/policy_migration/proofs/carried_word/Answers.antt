use mathlib.Core.Path.{ap, ap₂, ◌∙◌}
use Prim.Native.Nat.{ℕ, ◌+◌, ◌*◌}
use native.Mathlib.Omega.{arith}
use Rattle.base.specs.Sums.{one_if}
use Rattle.policy_key_set.proofs.Entries.{six}
use Rattle.policy_key_set.specs.Sets.{word_count}
use Rattle.policy.specs.PolicyBytes.{numbers_of}
use Rattle.policy_migration.specs.Carry.{carried_test}
use Rattle.policy_migration.specs.Helpers.{set_at}
use Rattle.policy_migration.proofs.Testing.{all_high, bit_number, high_small, next-high, none-high}
use Rattle.policy_migration.proofs.carried_word.Goals as goal

pub loop-b-init : goal.loop-b-init
loop-b-init c =
    let x = c.args in
    none-high (carried_test (numbers_of x.entries.now) x.policy.now (set_at x.k)) x.w

pub carried_bit-requires : goal.carried_bit-requires
carried_bit-requires c = (c.requires.0, omega arith, c.requires.2, c.requires.3)

pub overflow_mul-acc : goal.overflow_mul-acc
overflow_mul-acc c =
    let x = c.args in let l = c.loop-b in
    let s = high_small (carried_test (numbers_of x.entries.now) x.policy.now (set_at x.k)) x.w l.b (omega arith)
    (omega arith) in omega (arith, l.invariant)

pub overflow_add-acc : goal.overflow_add-acc
overflow_add-acc c =
    let x = c.args in let l = c.loop-b in
    let s = high_small (carried_test (numbers_of x.entries.now) x.policy.now (set_at x.k)) x.w l.b (omega arith)
    (omega arith) in omega (arith, l.invariant, c.from.ensures, bit_number c.carried_bit.result)

pub loop-b-preserved : goal.loop-b-preserved
loop-b-preserved c =
    let x = c.args in let l = c.loop-b in
    ap₂ (λ (u v : ℕ). u + 2 * v) (c.from.ensures ∙ (bit_number c.carried_bit.result).0 ∙ ap one_if c.carried_bit.ensures) l.invariant
    ∙ next-high (carried_test (numbers_of x.entries.now) x.policy.now (set_at x.k)) x.w l.b (omega arith) (omega arith)

pub returns : goal.returns
returns c =
    let x = c.args in let l = c.loop-b in
    l.invariant ∙ all_high (carried_test (numbers_of x.entries.now) x.policy.now (set_at x.k)) x.w word_count
    (omega (arith, six, c.requires.1)) l.b (omega arith)
