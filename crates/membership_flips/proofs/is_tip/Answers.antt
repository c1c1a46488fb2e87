-- `membership_flips::is_tip` meets its contract.
use mathlib.Core.Path.{refl, ◌∙◌}
use Prim.Native.Nat.{◌/◌, ◌%◌}
use lib.Dec.{eqb}
use Rattle.policy.specs.Policy.{entry_rule}
use Rattle.policy.specs.PolicyBytes.{policy_of}
use Rattle.membership_flips.specs.Pass.{flagged, tip_test}
use Rattle.membership_flips.proofs.Listing.{tip_is, unused}
use Rattle.membership_flips.proofs.is_tip.Goals as goal

pub returns-then-not-emoji : goal.returns-then-not-emoji
unfolding tip_test
returns-then-not-emoji c =
    let x = c.args in
    let p = policy_of x.policy.now in
    let i = x.n / 4 in
    let k = eqb (x.n / 2 % 2) 1 in
    let a = eqb (x.n % 2) 1 in
    unused (entry_rule p i k) a c.if-not-bare.true c.if-not-text.true c.if-not-emoji.true
    ∙ tip_is p i k a (flagged x.flags.now i k) refl c.is_flagged-bare.ensures c.is_flagged-text.ensures c.is_flagged-emoji.ensures

pub returns : goal.returns
unfolding tip_test
returns c =
    let x = c.args in
    let i = x.n / 4 in
    let k = eqb (x.n / 2 % 2) 1 in
    c.matters_for.ensures
    ∙ tip_is (policy_of x.policy.now) i k (eqb (x.n % 2) 1) (flagged x.flags.now i k) c.rule_at-rule.ensures
    c.is_flagged-bare.ensures c.is_flagged-text.ensures c.is_flagged-emoji.ensures
