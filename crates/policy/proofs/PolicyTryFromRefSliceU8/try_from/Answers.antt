-- `Policy::try_from` meets its contract, by the result of the test.
use Rattle.std.specs.Prelude.{Err, Ok}
use mathlib.Core.Path.{◌≡◌, ap, sym, ◌∙◌}
use mathlib.Core.Bool.{false, true}
use Rattle.base.specs.declared.Refusal.{Refusal}
use Rattle.policy.specs.PolicyBytes.{is_policy, policy_or_fault, read_policy}
use Rattle.policy.specs.declared.ReadPolicy.{ReadPolicy}
use Rattle.policy.proofs.PolicyTryFromRefSliceU8.try_from.Goals as goal

pub returns-then-read : goal.returns-then-read
unfolding policy_or_fault read_policy
returns-then-read c =
    let e = c.read_policy-read.ensures in
    let t : is_policy c.args.bytes.now ≡ true = sym (ap (λ (r : ReadPolicy). r.accepted) e) ∙ c.if-read.true in
    ap (λ (r : ReadPolicy). Ok r.policy) e ∙ sym (simp t)

pub returns-else-read : goal.returns-else-read
unfolding policy_or_fault read_policy
returns-else-read c =
    let e = c.read_policy-read.ensures in
    let t : is_policy c.args.bytes.now ≡ false = sym (ap (λ (r : ReadPolicy). r.accepted) e) ∙ c.if-read.false in
    ap (λ (r : Refusal). Err r) c.policy_refusal.ensures ∙ sym (simp t)
