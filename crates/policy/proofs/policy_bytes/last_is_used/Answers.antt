-- `policy_bytes::last_is_used` meets its contract: the last word of the set of all entries is 2 to the 34th less 1.
use mathlib.Core.Path.{refl, sym}
use native.Mathlib.Omega.{arith}
use Rattle.policy.proofs.Unused.{small_word}
use Rattle.policy.proofs.policy_bytes.last_is_used.Goals as goal

pub returns : goal.returns
returns c =
    let w = c.args.last in
    sym (small_word 354 320 34 w refl (omega arith) c.ranges.last.fits)
