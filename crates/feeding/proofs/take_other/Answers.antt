-- `feeding::take_other` meets its contract: the held base is written, and then the character is held or written.
use mathlib.Core.Path.{ap, sym, ◌∙◌}
use native.Mathlib.Omega.{arith}
use lib.ListN.{length}
use lib.Seq.{length-sets}
use Rattle.base.proofs.Writer.{put_as}
use Rattle.utf8.specs.Rfc3629.{encode_all}
use Rattle.policy.specs.PolicyBytes.{policy_of}
use Rattle.scanner.specs.declared.char_class.Class.{Class}
use Rattle.feed.specs.Feed.{settle}
use Rattle.feed.specs.Bytes.{pending_of}
use Rattle.feeding.proofs.Taking.{alone-room, other-alone, other-held, other-room}
use Rattle.feeding.proofs.take_other.Goals as goal

pub put_held-settled-requires : goal.put_held-settled-requires
put_held-settled-requires c =
    let x = c.args in
    let p = policy_of x.policy.now in
    let k = ap (λ (y : Class). length (encode_all (settle (pending_of p x.taken.held) y).text)) c.class_of.ensures in
    (c.requires.0, omega (arith, c.requires.4, k, other-room p x.taken x.ch c.requires.2))

pub returns-then-has_variation_sequence : goal.returns-then-has_variation_sequence
returns-then-has_variation_sequence c =
    let x = c.args in
    let p = policy_of x.policy.now in
    let h = c.put_held-settled in
    let k = c.class_of.ensures in
    other-held p x.taken x.ch c.requires.2 c.requires.3
    (h.ensures.counts ∙ ap (λ (y : Class). (settle (pending_of p x.taken.held) y).counts) k) c.add-counts.ensures
    c.requires.1
    (sym c.has_variation_sequence.ensures ∙ c.if-has_variation_sequence.true)
    (put_as _ (ap (λ (y : Class). encode_all (settle (pending_of p x.taken.held) y).text) k) h.ensures.text) c.new_held-held.ensures

pub put_char-end-requires : goal.put_char-end-requires
put_char-end-requires c =
    let x = c.args in
    let p = policy_of x.policy.now in
    let h = c.put_held-settled.ensures.text in
    let e = h.ends in
    let k = ap (λ (y : Class). length (encode_all (settle (pending_of p x.taken.held) y).text))
    c.class_of.ensures in (
      c.requires.1,
      omega (
        arith,
        c.requires.4,
        k,
        other-room p x.taken x.ch c.requires.2,
        alone-room p x.taken x.ch c.requires.2 (sym c.has_variation_sequence.ensures ∙ c.if-has_variation_sequence.false),
        ap length h.bytes,
        length-sets x.out.now x.taken.end
            (encode_all (settle (pending_of p x.taken.held)
            c.class_of.result).text),
      ),
    )

pub returns : goal.returns
returns c =
    let x = c.args in
    let p = policy_of x.policy.now in
    let h = c.put_held-settled in
    let k = c.class_of.ensures in
    other-alone p x.taken x.ch c.requires.2 c.requires.3
    (h.ensures.counts ∙ ap (λ (y : Class). (settle (pending_of p x.taken.held) y).counts) k)
    c.add-counts.ensures
    (sym c.has_variation_sequence.ensures
    ∙ c.if-has_variation_sequence.false)
    (put_as _ (ap (λ (y : Class). encode_all (settle (pending_of p x.taken.held) y).text) k) h.ensures.text)
    c.put_char-end.ensures c.new_held-held-2.ensures
