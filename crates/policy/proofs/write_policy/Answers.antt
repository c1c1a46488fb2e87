-- `policy::write_policy` meets its contract: it writes the version and the two key sets one after the other.
use native.Mathlib.Omega.{arith}
use Rattle.base.proofs.Output.{too_short, wrote}
use Rattle.emoji.specs.UnicodeData.{unicode_version}
use Rattle.policy.specs.PolicyBytes.{policy_bytes}
use Rattle.policy.proofs.Bytes.{stored_length, stored_put}
use Rattle.policy.proofs.write_policy.Goals as goal

pub returns-then-out-wanted : goal.returns-then-out-wanted
returns-then-out-wanted c =
    let p = c.args.policy in
    let a = c.keys_len.ensures in
    let b = c.keys_len-2.ensures in
    let l = stored_length p in
    too_short (policy_bytes p) (omega arith) (omega arith)

pub returns : goal.returns
unfolding unicode_version
returns c =
    let p = c.args.policy in
    let a = c.keys_len.ensures in
    let b = c.keys_len-2.ensures in
    let l = stored_length p in
    let h = c.if-out-wanted.false in
    wrote (omega arith) (omega arith)
    (stored_put p (omega arith) c.write_word.ensures.1 c.put_keys-at.ensures
    c.put_keys.ensures)
