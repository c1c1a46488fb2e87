-- `feeding::put_held` meets its contract: no base is held, or the base and its selector are written.
use mathlib.Core.Path.{ap}
use native.Mathlib.Omega.{arith}
use lib.ListN.{length}
use lib.Seq.{length-sets}
use mathlib.Core.List.{List, map}
use Rattle.utf8.specs.Rfc3629.{encode, encode_all}
use Rattle.emoji.specs.Presentation.{as_selector}
use Rattle.emoji.specs.declared.presentation.Presentation.{Presentation}
use Rattle.policy.specs.PolicyBytes.{policy_of}
use Rattle.feeding.proofs.Settling.{counts_none, counts_some, put_none, put_some, some-room}
use Rattle.feeding.proofs.put_held.Goals as goal

pub returns-then-base-eq0 : goal.returns-then-base-eq0
returns-then-base-eq0 c =
    let x = c.args in
    let p = policy_of x.policy.now in record {
      text = put_none p x.held x.next x.out.now x.at c.if-base-eq0.true;
      counts = counts_none p x.held x.next
          c.if-base-eq0.true c.empty-counts.ensures;
    }

pub put_char-after-requires : goal.put_char-after-requires
put_char-after-requires c =
    let x = c.args in
    let a = c.analyze_by_policy_bytes-outcome in (
      c.requires.0,
      omega (
        arith,
        c.requires.1,
        some-room (policy_of x.policy.now) x.held x.next a.result
            c.if-base-eq0.false a.ensures,
      ),
    )

pub put_selector-end-requires : goal.put_selector-end-requires
put_selector-end-requires c =
    let x = c.args in
    let p = c.put_char-after.ensures in
    let e = p.ends in
    let a = c.analyze_by_policy_bytes-outcome in
    omega (
      arith,
      c.requires.1,
      some-room (policy_of x.policy.now) x.held x.next a.result
          c.if-base-eq0.false a.ensures,
      ap length p.bytes,
      length-sets x.out.now x.at (encode x.held.base),
      ap (λ (l : List Presentation). length (encode_all (map as_selector l))) c.selector_of.ensures,
    )

pub returns : goal.returns
returns c =
    let x = c.args in
    let p = policy_of x.policy.now in
    let a = c.analyze_by_policy_bytes-outcome in record {
      text = put_some p x.held x.next a.result c.selector_of.result
          c.if-base-eq0.false a.ensures
          c.selector_of.ensures c.put_char-after.ensures
          c.put_selector-end.ensures;
      counts = counts_some p x.held x.next a.result
          c.if-base-eq0.false a.ensures;
    }
