-- `display::put_key` meets its contract: it writes the text, or a comma and the text.
use mathlib.Core.Path.{ap}
use native.Mathlib.Omega.{arith}
use lib.ListN.{length}
use Rattle.policy_key_set.specs.Display.{key_text, with_comma}
use Rattle.policy_key_set.proofs.Buffers.{later_put}
use Rattle.policy_key_set.proofs.Texts.{comma_before}
use Rattle.policy_key_set.proofs.display.put_key.Goals as goal

pub put_text-requires : goal.put_text-requires
unfolding with_comma
put_text-requires c = rw c.if-start-eq0.true at c.requires

pub returns-then-start-eq0 : goal.returns-then-start-eq0
unfolding with_comma
returns-then-start-eq0 c = rw c.if-start-eq0.true c.put_text.ensures

pub put_bytes-at-requires : goal.put_bytes-at-requires
put_bytes-at-requires c =
    let a = c.args in
    let h = c.if-start-eq0.false in
    omega (arith, ap length (comma_before a.start (key_text a.keycap a.ch) (omega arith)))

pub put_text-requires-2 : goal.put_text-requires-2
put_text-requires-2 c =
    let a = c.args in
    let h = c.if-start-eq0.false in
    omega (arith, ap length (comma_before a.start (key_text a.keycap a.ch) (omega arith)), c.put_bytes-at.ensures.ends)

pub returns : goal.returns
returns c =
    let a = c.args in
    let h = c.if-start-eq0.false in
    later_put (key_text a.keycap a.ch) (omega arith) c.put_bytes-at.ensures c.put_text-2.ensures
