-- `feeding::later::take_settling` meets its contract: the held base, the completed character, and those after it.
use mathlib.Core.Path.{◌≡◌, refl, ap}
use mathlib.Core.List.{List, [], ◌∷◌, ◌++◌}
use Prim.Native.Nat.{ℕ, ◌/◌}
use native.Mathlib.Omega.{arith}
use lib.ListN.{drop}
use Rattle.utf8.specs.Rfc3629.{chars}
use Rattle.policy.specs.PolicyBytes.{policy_of}
use Rattle.feeding.specs.Parts.{scanned_chars}
use Rattle.feeding.proofs.LaterParts.{after_one, few-one, few-settled, fronted_none, none-scalar, one-room, settle-room, settled-then}
use Rattle.feeding.proofs.Scanning.{char-some}
use Rattle.feeding.proofs.Taking.{and_then}
use Rattle.feeding.proofs.later.take_settling.Goals as goal

pub settle_held-start-requires : goal.settle_held-start-requires
settle_held-start-requires c =
    let x = c.args in
    let Q = c.requires in
    let q = policy_of x.earlier.now in
    let p = policy_of x.policy.now in
    let d = x.scan.first / 8 in
    let ds = chars (drop x.scan.from x.piece.now) in
    let e = Q.5 in
    let f = fronted_none q p x.held x.counts 0 in
    let cs : scanned_chars x.piece.now x.scan ≡ [] ++ (d ∷ ds) = ap (λ (l : List ℕ). l ++ ds) (char-some x.scan.first
    Q.4) in (
      Q.0,
      omega (arith, Q.2),
      settle-room q p x.held x.counts f d ds e cs {o = x.out.now} refl
          c.class_of.ensures Q.6,
    )

pub take_other-one-requires : goal.take_other-one-requires
take_other-one-requires c =
    let x = c.args in
    let Q = c.requires in
    let q = policy_of x.earlier.now in
    let p = policy_of x.policy.now in
    let d = x.scan.first / 8 in
    let ds = chars (drop x.scan.from x.piece.now) in
    let e = Q.5 in
    let f = fronted_none q p x.held x.counts 0 in
    let cs : scanned_chars x.piece.now x.scan ≡ [] ++ (d ∷ ds) = ap (λ (l : List ℕ). l ++ ds) (char-some x.scan.first
    Q.4) in
    let k = c.class_of.ensures in
    let s = c.settle_held-start.ensures in (
      none-scalar q p x.held x.counts f d ds e cs refl k s,
      Q.3.is_scalar_lem Q.4,
      e,
      omega (arith, few-settled q p x.held x.counts f d ds e cs refl k s 160000000 Q.2),
      one-room q p x.held x.counts f d ds e cs refl k s Q.6,
    )

pub take_after-taken-requires : goal.take_after-taken-requires
take_after-taken-requires c =
    let x = c.args in
    let Q = c.requires in
    let q = policy_of x.earlier.now in
    let p = policy_of x.policy.now in
    let d = x.scan.first / 8 in
    let ds = chars (drop x.scan.from x.piece.now) in
    let e = Q.5 in
    let f = fronted_none q p x.held x.counts 0 in
    let cs : scanned_chars x.piece.now x.scan ≡ [] ++ (d ∷ ds) = ap (λ (l : List ℕ). l ++ ds) (char-some x.scan.first
    Q.4) in
    let k = c.class_of.ensures in
    let s = c.settle_held-start.ensures in
    let w = c.take_other-one.ensures in (
      w.scalar,
      omega (arith, few-one q p x.held x.counts f d ds e cs refl k s Q.6 w 160000000 Q.2),
      Q.1,
      Q.3.inside,
      Q.3.end_is,
      Q.3.plain_is,
      after_one q p x.held x.counts f d ds e cs refl k s Q.6 w,
    )

pub returns : goal.returns
returns c =
    let x = c.args in
    let Q = c.requires in
    let q = policy_of x.earlier.now in
    let p = policy_of x.policy.now in
    let d = x.scan.first / 8 in
    let ds = chars (drop x.scan.from x.piece.now) in
    let e = Q.5 in
    let f = fronted_none q p x.held x.counts 0 in
    let cs : scanned_chars x.piece.now x.scan ≡ [] ++ (d ∷ ds) = ap (λ (l : List ℕ). l ++ ds) (char-some x.scan.first
    Q.4) in
    settled-then q p x.held x.counts f d ds e cs refl c.class_of.ensures c.settle_held-start.ensures
    (and_then c.take_other-one.ensures c.take_after-taken.ensures)
