use mathlib.Core.Path.{ap}
use native.Mathlib.Omega.{arith}
use lib.ListN.{length}
use Rattle.membership_flips.specs.Pass.{tip_test}
use Rattle.membership_flips.proofs.Digits.{from_bool_small}
use Rattle.membership_flips.proofs.Listing.{count-on, none_from}
use Rattle.membership_flips.proofs.count_tips.Goals as goal

pub loop-n-init : goal.loop-n-init
loop-n-init c = (omega arith, omega arith)

pub is_tip-requires : goal.is_tip-requires
is_tip-requires c = (omega arith, c.requires)

pub loop-n-preserved : goal.loop-n-preserved
loop-n-preserved c =
    let x = c.args in
    let l = c.loop-n in
    let e = count-on (tip_test x.policy.now x.flags.now) l.n (omega (arith, c.loop-n-test.true))
    c.is_tip.ensures c.from-count.ensures in
    let k = from_bool_small c.is_tip.result in
    (omega (arith, c.from-count.ensures, l.invariant.0), omega (arith, l.invariant.1))

pub returns : goal.returns
returns c =
    let x = c.args in
    let l = c.loop-n in
    omega (arith, l.invariant.1, ap length (none_from (tip_test x.policy.now x.flags.now) l.n (omega (arith, c.loop-n-test.false))))
