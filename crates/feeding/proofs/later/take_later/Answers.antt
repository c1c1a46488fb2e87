-- `feeding::later::take_later` meets its contract: selectors at the front, and then the characters from the first other one on.
use mathlib.Core.Path.{◌≡◌, ap, ◌∙◌}
use mathlib.Core.List.{List, ◌∷◌, ◌++◌, append-nil}
use Prim.Native.Nat.{ℕ}
use native.Mathlib.Omega.{arith}
use lib.ListN.{length}
use Rattle.policy.specs.PolicyBytes.{policy_of}
use Rattle.scanner.specs.Classes.{class_of}
use Rattle.feed.specs.Bytes.{pending_of}
use Rattle.feeding.specs.Parts.{char_of, scanned_chars}
use Rattle.feeding.proofs.Fronting.{first-few, selectors_end, selectors_last, selectors_scalar, selectors_uncounted}
use Rattle.feeding.proofs.LaterParts.{
  few-settled,
  first_at,
  front-chars,
  front_end,
  front-few,
  front_fits,
  front_is,
  front_out,
  front-parted,
  later_length,
  none-scalar,
  other-room,
  settle-room,
  settled-then,
  unsettled,
  value_at,
}
use Rattle.feeding.proofs.Taking.{taken_as}
use Rattle.feeding.proofs.later.take_later.Goals as goal

pub take_settling-requires : goal.take_settling-requires
take_settling-requires c =
    let Q = c.requires in
    let o = c.is_other.ensures.other c.if-is_other.true in
    (Q.0, Q.1, Q.2, Q.3, o.0, o.1, Q.4)

pub returns-then-is_other : goal.returns-then-is_other
returns-then-is_other c = c.take_settling.ensures

pub take_first-first-requires : goal.take_first-first-requires
take_first-first-requires c =
    let x = c.args in
    let Q = c.requires in (
      Q.0,
      Q.3.is_scalar_lem,
      omega (arith, Q.2),
      front_fits (pending_of (policy_of x.earlier.now) x.held) (policy_of x.earlier.now) (char_of x.scan.first) (length
          x.out.now) (c.is_other.ensures.selectors c.if-is_other.false),
    )

pub take_selectors-front-requires : goal.take_selectors-front-requires
take_selectors-front-requires c =
    let x = c.args in
    let Q = c.requires in
    let t = c.take_first-first.ensures in (
      t.scalar,
      first-few (policy_of x.earlier.now) x.piece.now x.scan x.held x.counts t (omega (arith, Q.2)),
      Q.1,
      Q.3.inside,
    )

pub returns-then-scan-at : goal.returns-then-scan-at
returns-then-scan-at c =
    let x = c.args in
    let Q = c.requires in
    let q = policy_of x.earlier.now in
    let p = policy_of x.policy.now in
    let only = c.is_other.ensures.selectors
    c.if-is_other.false in
    let a = c.take_first-first.ensures in
    let g = c.take_selectors-front.ensures.so_far in
    let S = front-chars q p x.piece.now x.scan x.held x.counts only a g in
    let F = front_is q p x.piece.now x.scan x.held x.counts only a g in
    let out = front_out q p x.piece.now x.scan x.held x.counts only a g in
    let parted = front-parted q p x.piece.now x.scan x.held x.counts only a g in
    unsettled q p x.held x.counts F out
    (parted ∙ ap (λ (l : List ℕ). S ++ l) (selectors_last g Q.3.end_is c.if-scan-at.true) ∙ append-nil S)
    (front_end q p x.piece.now x.scan x.held x.counts only a g)

pub settle_held-start-requires : goal.settle_held-start-requires
settle_held-start-requires c =
    let x = c.args in
    let Q = c.requires in
    let q = policy_of x.earlier.now in
    let p = policy_of x.policy.now in
    let only = c.is_other.ensures.selectors c.if-is_other.false in
    let a = c.take_first-first.ensures in
    let g = c.take_selectors-front.ensures.so_far in
    let r = c.take_selectors-front.result.taken in
    let S = front-chars q p x.piece.now x.scan x.held x.counts only a g in
    let F = front_is q p x.piece.now x.scan x.held x.counts only a g in
    let out = front_out q p x.piece.now x.scan x.held x.counts only a g in
    let parted = front-parted q p x.piece.now x.scan x.held x.counts only a g in
    let at = c.take_selectors-front.result.at in
    let w₁ = first_at x.piece.now at x.scan.end (omega (arith, c.if-scan-at.false))
    (selectors_end g Q.3.end_is)
    c.take_selectors-front.ensures.none_more in
    let d = w₁.first in
    let ds = w₁.more in
    let e = w₁.other in
    let k = c.class_of-class.ensures ∙ ap class_of (value_at w₁
    c.decode.result c.decode.ensures) in
    let cs : scanned_chars x.piece.now x.scan ≡ S ++ (d ∷ ds) = parted ∙ ap (λ (l : List ℕ). S ++ l) w₁.chars_are in (
      selectors_scalar g,
      omega (arith, front-few q p x.piece.now x.scan x.held x.counts only a g Q.2 Q.1),
      settle-room q p x.held x.counts F d ds e cs out k Q.4,
    )

pub take_rest-rest-requires : goal.take_rest-rest-requires
take_rest-rest-requires c =
    let x = c.args in
    let Q = c.requires in
    let q = policy_of x.earlier.now in
    let p = policy_of x.policy.now in
    let only = c.is_other.ensures.selectors
    c.if-is_other.false in
    let a = c.take_first-first.ensures in
    let g = c.take_selectors-front.ensures.so_far in
    let r = c.take_selectors-front.result.taken in
    let S = front-chars q p x.piece.now x.scan x.held x.counts only a g in
    let F = front_is q p x.piece.now x.scan x.held x.counts only a g in
    let out = front_out q p x.piece.now x.scan x.held x.counts only a g in
    let parted = front-parted q p x.piece.now x.scan x.held x.counts only a g in
    let at = c.take_selectors-front.result.at in
    let w₁ = first_at x.piece.now at x.scan.end (omega
    (arith, c.if-scan-at.false)) (selectors_end g Q.3.end_is)
    c.take_selectors-front.ensures.none_more in
    let d = w₁.first in
    let ds = w₁.more in
    let e = w₁.other in
    let k = c.class_of-class.ensures ∙ ap class_of (value_at w₁
    c.decode.result
    c.decode.ensures) in
    let cs : scanned_chars x.piece.now x.scan ≡ S ++ (d ∷ ds) = parted ∙ ap (λ (l : List ℕ). S ++ l) w₁.chars_are in
    let s = c.settle_held-start.ensures in
    let fw = front-few q p x.piece.now x.scan x.held x.counts only a g Q.2 Q.1 in (
      none-scalar q p x.held x.counts F d ds e cs out k s,
      omega (arith, few-settled q p x.held x.counts F d ds e cs out k s 190000000 fw),
      Q.1,
      omega (arith, c.if-scan-at.false),
      selectors_end g Q.3.end_is,
      c.take_selectors-front.ensures.none_more,
      λ z. selectors_uncounted g p (Q.3.plain_is z),
      other-room q p x.held x.counts F d ds e cs out k s Q.4 w₁.chars_are,
    )

pub returns : goal.returns
returns c =
    let x = c.args in
    let Q = c.requires in
    let q = policy_of x.earlier.now in
    let p = policy_of x.policy.now in
    let only = c.is_other.ensures.selectors c.if-is_other.false in
    let a = c.take_first-first.ensures in
    let g = c.take_selectors-front.ensures.so_far in
    let r = c.take_selectors-front.result.taken in
    let S = front-chars q p x.piece.now x.scan x.held x.counts only a g in
    let F = front_is q p x.piece.now x.scan x.held x.counts only a g in
    let out = front_out q p x.piece.now x.scan x.held x.counts only a g in
    let parted = front-parted q p x.piece.now x.scan x.held x.counts only a g in
    let at = c.take_selectors-front.result.at in
    let w₁ = first_at x.piece.now at x.scan.end (omega (arith, c.if-scan-at.false)) (selectors_end g Q.3.end_is)
    c.take_selectors-front.ensures.none_more in
    let d = w₁.first in
    let ds = w₁.more in
    let e = w₁.other in
    let k = c.class_of-class.ensures ∙ ap class_of (value_at w₁ c.decode.result c.decode.ensures) in
    let cs : scanned_chars x.piece.now x.scan ≡ S ++ (d ∷ ds) = parted ∙ ap (λ (l : List ℕ). S ++ l) w₁.chars_are in
    let s = c.settle_held-start.ensures in
    settled-then q p x.held x.counts F d ds e cs out k s (taken_as w₁.chars_are c.take_rest-rest.ensures)

pub shape_of-out : goal.shape_of-out
shape_of-out c = later_length (returns c)
