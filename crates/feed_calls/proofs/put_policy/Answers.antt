-- `feed_calls::put_policy` meets its contract.
use Rattle.feed_calls.proofs.Parts.{held-put, none_put}
use Rattle.feed_calls.proofs.put_policy.Goals as goal

pub returns-then-base-ne0 : goal.returns-then-base-ne0
returns-then-base-ne0 c =
    let x = c.args in
    held-put x.feed.now x.policy.now c.requires.0 c.requires.1
    c.if-base-ne0.true
    c.write_word.ensures.1 c.write_bytes.ensures.1

pub returns : goal.returns
returns c =
    let x = c.args in
    none_put x.feed.now x.policy.now c.requires.0
    c.requires.1 c.if-base-ne0.false c.write_bytes-2.ensures.1
    c.write_word-2.ensures.1
    c.write_bytes-3.ensures.1
