use Rattle.text_pass.proofs.Staying.{stays_here, stays_on, stays_then}
use Rattle.policy.proofs.ByEntry.{ascii_rule_bare}
use Rattle.utf8.proofs.Packed.{packed-reads, packed_step, packed_stop}
use lib.ListN.{drop}
use native.Mathlib.Omega.{arith}
use mathlib.Core.Bool.{true, true≢false}
use mathlib.Core.Path.{◌≡◌, refl, sym, ◌∙◌}
use Rattle.policy.specs.PolicyBytes.{policy_of}
use Rattle.text_pass.specs.Changes.{AsciiBare}
use Rattle.text_pass.proofs.next_change.Goals as goal

pub loop-from-init : goal.loop-from-init
loop-from-init c = stays_here _

pub returns-then-packed-eq0 : goal.returns-then-packed-eq0
returns-then-packed-eq0 c =
    let x = c.args in
    let h : c.ascii_keys_bare-bare.result ≡ true → AsciiBare (policy_of x.policy.now) = λ t. ascii_rule_bare
    x.policy.now (sym c.ascii_keys_bare-bare.ensures ∙ t) in
    let s = stays_on c.loop-from.invariant (c.skip_plain-at.ensures (policy_of x.policy.now) h) in
    let z = packed_stop x.text.now c.skip_plain-at.result c.decode-packed.result c.decode-packed.ensures
    c.if-packed-eq0.true in
    (λ f. absurd (true≢false (sym f)), λ _. record { stays = s; ends = z.chars_none; start-is-end = refl; no_selector = refl })

pub change_at-change-requires : goal.change_at-change-requires
change_at-change-requires c =
    let x = c.args in
    packed-reads (drop c.skip_plain-at.result x.text.now) c.decode-packed.result c.decode-packed.ensures
    (omega (arith, c.if-packed-eq0.false))

pub returns-then-change : goal.returns-then-change
returns-then-change c =
    let x = c.args in
    let h : c.ascii_keys_bare-bare.result ≡ true → AsciiBare (policy_of x.policy.now) =
    λ t. ascii_rule_bare x.policy.now (sym c.ascii_keys_bare-bare.ensures ∙ t) in
    let s = stays_on c.loop-from.invariant
    (c.skip_plain-at.ensures (policy_of x.policy.now) h) in
    (λ m. stays_then s (c.change_at-change.ensures.0 m), λ f. absurd (true≢false (sym c.if-change.true ∙ f)))

pub loop-from-smaller : goal.loop-from-smaller
loop-from-smaller c =
    let x = c.args in
    let h : c.ascii_keys_bare-bare.result ≡ true → AsciiBare (policy_of x.policy.now) =
    λ t. ascii_rule_bare x.policy.now (sym c.ascii_keys_bare-bare.ensures ∙ t) in
    let s = stays_on c.loop-from.invariant
    (c.skip_plain-at.ensures (policy_of x.policy.now) h) in
    let a = c.skip_plain-at.ensures (policy_of x.policy.now) h in
    let d = c.change_at-change.ensures.1 c.if-change.false in
    let k = packed_step x.text.now c.skip_plain-at.result c.decode-packed.result
    c.decode-packed.ensures c.if-packed-eq0.false in
    omega (arith, a.advances.on, d.1, d.0.advances.inside (omega (arith, k.room)), k.room)

pub loop-from-preserved : goal.loop-from-preserved
loop-from-preserved c =
    let x = c.args in
    let h : c.ascii_keys_bare-bare.result ≡ true → AsciiBare (policy_of x.policy.now) =
    λ t. ascii_rule_bare x.policy.now (sym c.ascii_keys_bare-bare.ensures ∙ t) in
    let s = stays_on c.loop-from.invariant
    (c.skip_plain-at.ensures (policy_of x.policy.now) h) in
    stays_on s (c.change_at-change.ensures.1 c.if-change.false).0
