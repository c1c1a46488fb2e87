-- `mending::finding_starting` meets its contract: the next finding that ends after the offset starts there, or none does. Up to
-- where the search ends, the text is well-formed.
use mathlib.Core.Path.{ap}
use Prim.Native.Nat.{ℕ}
use native.Mathlib.Omega.{arith}
use lib.ListN.{drop}
use Rattle.utf8.specs.Rfc3629.{valid_up_to_of}
use Rattle.policy.specs.PolicyBytes.{policy_of}
use Rattle.text_pass.proofs.Passing.{finds_room, finds_some, item_valid}
use Rattle.mending.proofs.Starting.{next-valid, none_before, none-further}
use Rattle.mending.proofs.finding_starting.Goals as goal

pub returns-else-next : goal.returns-else-next
returns-else-next c =
    let x = c.args in
    let n = c.next_finding-next in
    let m = c.if-next.false in
    let e = (n.ensures.2 m).1 in record {
      starts = rw m (none-further x.offset n.ensures m);
      valid = (
        omega (arith, e, n.ensures.0.advances.inside (omega arith)),
        omega
            (arith, e, next-valid x.offset n.ensures, ap (λ (k : ℕ). valid_up_to_of (drop k x.text.now)) e),
      );
    }

pub returns-then-next : goal.returns-then-next
returns-then-next c =
    let x = c.args in
    let n = c.next_finding-next in
    let m = c.if-next.true in
    let f = (n.ensures.1 m).1 in record {
      starts = none_before x.offset n.ensures m;
      valid = (
        finds_room f,
        omega (
          arith,
          next-valid x.offset n.ensures,
          item_valid (policy_of x.policy.now) x.text.now
              n.result.start n.result.end f.items_are f.end_is,
          finds_some f,
        ),
      );
    }
