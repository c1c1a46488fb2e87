use mathlib.Core.Path.{sym, ◌∙◌}
use native.Mathlib.Omega.{arith}
use Rattle.item_scanner.proofs.Cursor.{reading-done, reading-on, reading-tags, rest-ends, rest-none}
use Rattle.scanner.proofs.Peek.{seen, unseen}
use Rattle.item_scanner.proofs.item_rest.Goals as goal

pub returns-in_default-transition : goal.returns-in_default-transition
returns-in_default-transition c =
    let x = c.args in
    let l = c.loop-next in
    let k = seen x.text.now l.at (sym c.peek.ensures ∙ c.in-Some.is) in
    let both = reading-done l.invariant (rest-ends k l.state (sym c.transition.ensures ∙ c.in_default-transition.is)) in
    record { end = both.0; tags = both.1 }

pub loop-next-smaller-then-begins_tags : goal.loop-next-smaller-then-begins_tags
loop-next-smaller-then-begins_tags c =
    let x = c.args in
    let l = c.loop-next in
    let k = seen x.text.now l.at (sym c.peek.ensures ∙ c.in-Some.is) in
    let tags = c.consume_emoji_tag_runs-tags.ensures in
    let begins = sym c.begins_tags.ensures ∙ c.if-begins_tags.true in
    let r = reading-tags l.invariant k c.in-Some-transition.after (sym c.transition.ensures ∙ c.in-Some-transition.is)
    begins
    tags.end tags.complete in
    omega (arith, r.0, k.on, k.room)

pub loop-next-preserved-then-begins_tags : goal.loop-next-preserved-then-begins_tags
loop-next-preserved-then-begins_tags c =
    let x = c.args in
    let l = c.loop-next in
    let k = seen x.text.now l.at (sym c.peek.ensures ∙ c.in-Some.is) in
    let tags = c.consume_emoji_tag_runs-tags.ensures in
    let begins = sym c.begins_tags.ensures ∙ c.if-begins_tags.true in
    let r = reading-tags l.invariant k c.in-Some-transition.after (sym c.transition.ensures ∙ c.in-Some-transition.is)
    begins
    tags.end tags.complete in
    r.1

pub loop-next-smaller : goal.loop-next-smaller
loop-next-smaller c =
    let x = c.args in
    let l = c.loop-next in
    let k = seen x.text.now l.at (sym c.peek.ensures ∙ c.in-Some.is) in
    omega (arith, k.on, k.room)

pub loop-next-preserved : goal.loop-next-preserved
loop-next-preserved c =
    let x = c.args in
    let l = c.loop-next in
    let k = seen x.text.now l.at (sym c.peek.ensures ∙ c.in-Some.is) in
    reading-on l.invariant k c.in-Some-transition.after (sym c.transition.ensures ∙ c.in-Some-transition.is)
    (sym c.begins_tags.ensures ∙ c.if-begins_tags.false)

pub returns-in_default : goal.returns-in_default
returns-in_default c =
    let x = c.args in
    let l = c.loop-next in
    let both = reading-done l.invariant (rest-none l.state (unseen x.text.now l.at (sym c.peek.ensures ∙ c.in_default.is))) in
    record { end = both.0; tags = both.1 }
