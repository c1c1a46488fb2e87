-- `feeding::take_first` meets its contract.
use mathlib.Core.Path.{sym, subst}
use mathlib.Core.List.{List}
use Prim.Native.Nat.{ℕ, ◌+◌, ◌≤◌}
use native.Mathlib.Omega.{arith}
use lib.ListN.{length}
use Rattle.utf8.specs.Rfc3629.{encode_all}
use Rattle.policy.specs.PolicyBytes.{policy_of}
use Rattle.feed.specs.Bytes.{pending_of}
use Rattle.feed.specs.Feed.{fed_as, take_chars}
use Rattle.feeding.proofs.Scanning.{char-none, char-some}
use Rattle.feeding.proofs.Taking.{taken_as, taken_none}
use Rattle.feeding.proofs.take_first.Goals as goal

pub returns-then-first-eq0 : goal.returns-then-first-eq0
returns-then-first-eq0 c =
    let x = c.args in
    taken_as (sym (char-none x.first c.if-first-eq0.true))
    (taken_none (policy_of x.policy.now) x.held x.counts x.out.now 0 c.requires.0)

pub take_char-requires : goal.take_char-requires
take_char-requires c =
    let x = c.args in
    let q = c.requires in
    let p = policy_of x.policy.now in
    let z = c.if-first-eq0.false in (
      q.0,
      q.1 z,
      omega (arith, q.2),
      subst (λ (cs : List ℕ). 0 + length (encode_all (take_chars (pending_of p x.held) (fed_as p cs)).1.text) ≤ length x.out.now)
          (char-some x.first z) q.3,
    )

pub returns : goal.returns
returns c =
    let x = c.args in
    taken_as (sym (char-some x.first c.if-first-eq0.false)) c.take_char.ensures
