-- `feeding::later::take_after` meets its contract: selectors, and the rest.
use native.Mathlib.Omega.{arith}
use Rattle.policy.specs.PolicyBytes.{policy_of}
use Rattle.feeding.proofs.Fronting.{selectors_end, selectors_few, selectors_last, selectors_scalar, selectors_uncounted}
use Rattle.feeding.proofs.LaterParts.{after_none, after-rest, after-room}
use Rattle.feeding.proofs.later.take_after.Goals as goal

pub take_selectors-front-requires : goal.take_selectors-front-requires
take_selectors-front-requires c = let q = c.requires in (q.0, q.1, q.2, q.3)

pub returns-then-end-at : goal.returns-then-end-at
returns-then-end-at c =
    let g = c.take_selectors-front.ensures.so_far in
    after_none g (policy_of c.args.policy.now)
    c.args.out.now (selectors_last g
    c.requires.4 c.if-end-at.true)

pub take_rest-requires : goal.take_rest-requires
take_rest-requires c =
    let q = c.requires in
    let x = c.args in
    let p = policy_of x.policy.now in
    let g = c.take_selectors-front.ensures.so_far in (
      selectors_scalar g,
      selectors_few g q.2 q.1,
      q.2,
      omega (arith, c.if-end-at.false),
      selectors_end g q.4,
      c.take_selectors-front.ensures.none_more,
      λ z. selectors_uncounted g p (q.5 z),
      after-room g p x.out.now q.6,
    )

pub returns : goal.returns
returns c =
    after-rest c.take_selectors-front.ensures.so_far (policy_of
    c.args.policy.now) c.take_rest.ensures
