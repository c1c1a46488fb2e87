-- `CharSet::eq` meets its contract: the size of the symmetric difference is the number of entries at which the sets differ.
use mathlib.Core.Path.{ap, ◌∙◌}
use Prim.Native.Nat.{ℕ}
use lib.Dec.{eqb}
use Rattle.policy_key_set.specs.Sets.{entry_count, member, same_entries, size_of}
use Rattle.policy_key_set.proofs.Below.{count_same, none_differ}
use Rattle.policy_key_set.proofs.Members.{held}
use Rattle.policy_key_set.proofs.char_set.CharSet.eq.Goals as goal

pub returns : goal.returns
unfolding size_of same_entries
returns c =
    let a = c.args in
    let x = c.bitxor in
    ap (λ (n : ℕ). eqb n 0)
    (c.size.ensures ∙ count_same entry_count (λ (i : ℕ). member i x.result.bits) _ (held entry_count _ x.result.bits x.ensures))
    ∙ none_differ entry_count (λ (i : ℕ). member i a.self.bits) (λ (i : ℕ). member i a.rhs.bits)
