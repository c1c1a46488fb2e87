-- `policy::put_keys` meets its contract: it writes the two sets one after the other.
use mathlib.Core.Path.{ap, ◌∙◌}
use native.Mathlib.Omega.{arith}
use lib.ListN.{length}
use lib.Seq.{length-sets}
use Rattle.base.proofs.Numbers.{length_both, put_both}
use Rattle.base.specs.Words.{bytes_of}
use Rattle.policy.specs.PolicyBytes.{key_words}
use Rattle.policy.proofs.put_keys.Goals as goal

pub put_set-at-requires : goal.put_set-at-requires
unfolding key_words
put_set-at-requires c =
    let x = c.args.set in
    let p = c.requires in
    omega (arith, length_both x.chars.bits x.keycap_chars.bits)

pub put_set-requires : goal.put_set-requires
unfolding key_words
put_set-requires c =
    let x = c.args in
    let p = c.requires in
    let a = c.put_set-at.ensures in
    let e = a.ends in
    let l = ap length a.bytes ∙ length-sets x.out.now x.start (bytes_of x.set.chars.bits) in
    omega (arith, length_both x.set.chars.bits x.set.keycap_chars.bits)

pub returns : goal.returns
unfolding key_words
returns c =
    let x = c.args.set in
    put_both x.chars.bits x.keycap_chars.bits c.put_set-at.ensures
    c.put_set.ensures
