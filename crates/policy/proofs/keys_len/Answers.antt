-- `policy::keys_len` meets its contract: a key set is two sets.
use native.Mathlib.Omega.{arith}
use Rattle.base.proofs.Numbers.{length_both}
use Rattle.policy.specs.PolicyBytes.{key_words}
use Rattle.policy.proofs.keys_len.Goals as goal

pub returns : goal.returns
unfolding key_words
returns c =
    let x = c.args.set in
    let a = c.set_len.ensures in
    let b = c.set_len-2.ensures in
    omega (arith, length_both x.chars.bits x.keycap_chars.bits)
