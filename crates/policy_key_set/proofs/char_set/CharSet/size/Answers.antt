-- `CharSet::size` meets its contract: the cleared words have no member after the entries.
use mathlib.Core.Path.{ap, ◌∙◌}
use mathlib.Core.Bool.{Bool, true, ◌&&◌, and-true}
use Prim.Native.Nat.{ℕ}
use native.Mathlib.Omega.{arith}
use Rattle.policy_key_set.specs.Sets.{entry_count, member, size_of}
use Rattle.policy_key_set.proofs.Below.{count_same}
use Rattle.policy_key_set.proofs.Entries.{entry_count_lem}
use Rattle.policy_key_set.proofs.Members.{held}
use Rattle.policy_key_set.proofs.Sizes.{count_held}
use Rattle.policy_key_set.proofs.char_set.CharSet.size.Goals as goal

pub returns : goal.returns
unfolding size_of
returns c =
    let s = c.args.self.bits in
    let b = c.bitand-cleared in
    c.count_ones.ensures 6 (omega arith)
    ∙ count_held entry_count 384 _ b.result.bits (omega (arith, entry_count_lem)) b.ensures
    ∙ count_same entry_count _ (λ (i : ℕ). member i s)
    (λ k h. ap (λ (t : Bool). member k s && t) (held entry_count (λ (i : ℕ). true) _ c.all.ensures k h)
    ∙ and-true (member k s))
