-- `display::show_keys` meets its contract: the computed length is the length of the list, and the two domains are written one after the
-- other.
use mathlib.Core.Path.{◌≡◌, ◌∙◌, sym}
use native.Mathlib.Omega.{arith}
use Rattle.policy_key_set.specs.Display.{key_list}
use Rattle.policy_key_set.proofs.Buffers.{list_length, list_put}
use Rattle.base.proofs.Output.{too_short, wrote}
use Rattle.policy_key_set.proofs.display.show_keys.Goals as goal

pub put_keys-requires : goal.put_keys-requires
put_keys-requires c =
    let e : c.put_keys-at.result ≡ c.keys_end.result = c.put_keys-at.ensures.ends ∙ sym c.keys_end.ensures.0 in
    rw e (omega arith)

pub returns-then-wanted-out : goal.returns-then-wanted-out
returns-then-wanted-out c =
    let s = c.args.set in
    wrote (list_length s c.keys_end.ensures.0 c.keys_end-wanted.ensures.0) c.if-wanted-out.true
    (list_put s c.put_keys-at.ensures c.put_keys.ensures)

pub returns : goal.returns
returns c =
    let s = c.args.set in
    too_short (key_list s) (list_length s c.keys_end.ensures.0 c.keys_end-wanted.ensures.0) c.if-wanted-out.false
