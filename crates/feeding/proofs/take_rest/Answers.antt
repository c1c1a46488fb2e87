-- `feeding::take_rest` meets its contract.
use mathlib.Core.Path.{ap, sym, subst, ◌∙◌}
use Prim.Native.Nat.{◌+◌, ◌≤◌}
use native.Mathlib.Omega.{arith}
use lib.ListN.{drop, length, length-drop}
use Rattle.utf8.specs.Rfc3629.{encode_all}
use Rattle.utf8.proofs.Texts.{valid_up_to_le}
use Rattle.policy.specs.PolicyBytes.{policy_of}
use Rattle.scanner.specs.Classes.{class_of}
use Rattle.scanner.specs.declared.char_class.Class.{Class}
use Rattle.feed.specs.Bytes.{pending_of}
use Rattle.feed.specs.Feed.{settle}
use Rattle.feeding.proofs.Resting.{copied-room, first_is, held-room, middle-room, part_length, put_before, rest-copied, rest_of, rest-taken}
use Rattle.feeding.proofs.take_rest.Goals as goal

pub find_tail-tail-requires : goal.find_tail-tail-requires
find_tail-tail-requires c = let q = c.requires in (q.3, q.4, q.5)

pub put_part-to-requires : goal.put_part-to-requires
put_part-to-requires c =
    let x = c.args in
    let q = c.requires in
    let p = policy_of x.policy.now in
    let t = c.find_tail-tail.result in
    let r = rest_of p x.piece.now x.at x.end t q.3 q.4 q.5 c.find_tail-tail.ensures in
    let y = c.is_copied.ensures c.if-is_copied.true in
    let l : x.end ≤ length x.piece.now =
    omega (arith, q.3, q.4, valid_up_to_le (drop x.at x.piece.now), length-drop x.at x.piece.now) in (
      r.on,
      omega (arith, l, r.inside),
      copied-room p x.piece.now x.at x.end t r x.taken.held x.taken.counts y.1 (q.6 y.0) x.out.now
          x.taken.end q.7 l,
    )

pub returns-then-is_copied : goal.returns-then-is_copied
returns-then-is_copied c =
    let x = c.args in
    let q = c.requires in
    let p = policy_of x.policy.now in
    let t = c.find_tail-tail.result in
    let r = rest_of p x.piece.now x.at x.end t q.3 q.4 q.5
    c.find_tail-tail.ensures in
    let y = c.is_copied.ensures
    c.if-is_copied.true in
    rest-copied p x.piece.now x.at x.end t r x.taken.held x.taken.counts y.1 (q.6 y.0)
    c.put_part-to.ensures

pub put_held-settled-requires : goal.put_held-settled-requires
put_held-settled-requires c =
    let x = c.args in
    let q = c.requires in
    let p = policy_of x.policy.now in
    let t = c.find_tail-tail.result in
    let r = rest_of p x.piece.now x.at x.end t q.3 q.4 q.5
    c.find_tail-tail.ensures in
    let f = first_is p x.piece.now x.at x.end t r x.taken.held x.taken.counts c.decode.result
    c.decode.ensures in
    let k = c.class_of-class.ensures ∙ ap class_of f in (
      q.0,
      subst (λ (y : Class). x.taken.end + length (encode_all (settle (pending_of p x.taken.held) y).text) ≤ length x.out.now)
          (sym k)
          (held-room p x.piece.now x.at x.end t r x.taken.held x.taken.counts x.out.now x.taken.end q.7),
    )

pub slice_bounds-put_middle-count : goal.slice_bounds-put_middle-count
slice_bounds-put_middle-count c =
    let x = c.args in
    let q = c.requires in
    let p = policy_of x.policy.now in
    let t = c.find_tail-tail.result in
    (rest_of p x.piece.now x.at x.end t q.3 q.4 q.5
    c.find_tail-tail.ensures).on

pub slice_bounds-put_middle-start : goal.slice_bounds-put_middle-start
slice_bounds-put_middle-start c =
    let x = c.args in
    let q = c.requires in
    let p = policy_of x.policy.now in
    let t = c.find_tail-tail.result in
    (rest_of p x.piece.now x.at x.end t q.3 q.4 q.5
    c.find_tail-tail.ensures).on

pub slice_bounds-put_middle-end : goal.slice_bounds-put_middle-end
slice_bounds-put_middle-end c =
    let x = c.args in
    let q = c.requires in
    let p = policy_of x.policy.now in
    let t = c.find_tail-tail.result in
    let r = rest_of p x.piece.now x.at x.end t q.3 q.4 q.5
    c.find_tail-tail.ensures in
    omega (arith, r.inside, q.3, q.4, valid_up_to_le (drop x.at x.piece.now), length-drop x.at x.piece.now)

pub put_middle-middle-requires : goal.put_middle-middle-requires
put_middle-middle-requires c =
    let x = c.args in
    let q = c.requires in
    let p = policy_of x.policy.now in
    let t = c.find_tail-tail.result in
    let r = rest_of p x.piece.now x.at x.end t q.3 q.4 q.5
    c.find_tail-tail.ensures in
    let f = first_is p x.piece.now x.at x.end t r x.taken.held x.taken.counts
    c.decode.result
    c.decode.ensures in
    let k = c.class_of-class.ensures ∙ ap class_of f in
    let h = c.put_held-settled in
    let w = put_before (pending_of p x.taken.held) k h.ensures.text in (
      omega (arith, part_length p x.piece.now x.at x.end t, q.2),
      r.whole,
      λ z. r.uncounted (q.6 z),
      middle-room p x.piece.now x.at x.end t r x.taken.held x.taken.counts x.out.now x.taken.end q.7 w,
    )

pub returns : goal.returns
returns c =
    let x = c.args in
    let q = c.requires in
    let p = policy_of x.policy.now in
    let t = c.find_tail-tail.result in
    let r = rest_of p x.piece.now x.at x.end t q.3 q.4 q.5
    c.find_tail-tail.ensures in
    let f = first_is p x.piece.now x.at x.end t r x.taken.held x.taken.counts
    c.decode.result c.decode.ensures in
    let k = c.class_of-class.ensures ∙ ap class_of f in
    let h = c.put_held-settled in
    let w = put_before (pending_of p x.taken.held) k h.ensures.text in
    let m = c.put_middle-middle in
    rest-taken p x.piece.now x.at x.end t r x.taken.held x.taken.counts q.1 q.2 w
    (h.ensures.counts ∙ ap (λ (y : Class). (settle (pending_of p x.taken.held) y).counts) k) m.ensures.text m.ensures.counts
    c.add-counts.ensures c.add-counts-2.ensures
