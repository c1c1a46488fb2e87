-- `feeding::take_all` meets its contract: its parts one after the other.
use native.Mathlib.Omega.{arith}
use Rattle.policy.specs.PolicyBytes.{policy_of}
use Rattle.feeding.proofs.Fronting.{
  first-few,
  first-room,
  no_rest,
  rest-room,
  selectors_end,
  selectors_few,
  selectors_last,
  selectors_uncounted,
  selectors_scalar,
  with_rest,
}
use Rattle.feeding.proofs.take_all.Goals as goal

pub take_first-first-requires : goal.take_first-first-requires
take_first-first-requires c =
    let x = c.args in
    let q = c.requires in (
      q.0,
      q.3.is_scalar_lem,
      q.2,
      first-room (policy_of x.policy.now) x.piece.now x.scan x.held x.counts x.out.now
          q.0 q.4,
    )

pub take_selectors-front-requires : goal.take_selectors-front-requires
take_selectors-front-requires c =
    let x = c.args in
    let q = c.requires in
    let t = c.take_first-first.ensures in
    (t.scalar, first-few (policy_of x.policy.now) x.piece.now x.scan x.held x.counts t q.2, q.1, q.3.inside)

pub returns-then-scan-at : goal.returns-then-scan-at
returns-then-scan-at c =
    let x = c.args in
    let q = c.requires in
    let t = c.take_first-first.ensures in
    let g = c.take_selectors-front.ensures.so_far in
    no_rest (policy_of x.policy.now) x.piece.now x.scan x.held x.counts t g (selectors_last g q.3.end_is
    c.if-scan-at.true)

pub take_rest-requires : goal.take_rest-requires
take_rest-requires c =
    let x = c.args in
    let q = c.requires in
    let p = policy_of x.policy.now in
    let t = c.take_first-first.ensures in
    let k = c.take_selectors-front.ensures in
    let g = k.so_far in (
      selectors_scalar g,
      selectors_few g q.1 (first-few p x.piece.now x.scan x.held x.counts t q.2),
      q.1,
      omega (arith, c.if-scan-at.false),
      selectors_end g q.3.end_is,
      k.none_more,
      λ z. selectors_uncounted g p (q.3.plain_is z),
      rest-room p x.piece.now x.scan x.held x.counts t g q.4,
    )

pub returns : goal.returns
returns c =
    let x = c.args in
    let t = c.take_first-first.ensures in
    let g = c.take_selectors-front.ensures.so_far in
    with_rest (policy_of x.policy.now) x.piece.now x.scan x.held x.counts t g c.take_rest.ensures
