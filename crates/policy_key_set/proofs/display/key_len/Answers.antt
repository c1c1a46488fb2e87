-- `display::key_len` meets its contract: the length of the text, or of a comma and the text.
use mathlib.Core.Path.{ap}
use native.Mathlib.Omega.{arith}
use lib.ListN.{length}
use Rattle.policy_key_set.specs.Display.{key_text, with_comma}
use Rattle.policy_key_set.proofs.Texts.{comma_before}
use Rattle.policy_key_set.proofs.display.key_len.Goals as goal

pub returns-then-start-eq0 : goal.returns-then-start-eq0
unfolding with_comma
returns-then-start-eq0 c = (rw c.if-start-eq0.true c.text_len-n.ensures.0, omega arith)

pub returns : goal.returns
returns c =
    let a = c.args in
    let h = c.if-start-eq0.false in
    (omega (arith, ap length (comma_before a.start (key_text a.keycap a.ch) (omega arith))), omega arith)
