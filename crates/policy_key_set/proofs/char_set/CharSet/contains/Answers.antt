-- `CharSet::contains` meets its contract: it tests the bit at the character's index, which is below the number of entries.
use Rattle.std.specs.Prelude.{Option, ℕ}
use mathlib.Core.Path.{sym, ap, ◌∙◌}
use native.Mathlib.Omega.{arith}
use Rattle.policy_key_set.specs.Sets.{contains, member, member_at}
use Rattle.policy_key_set.proofs.Entries.{entry_count_lem, index_has_place}
use Rattle.policy_key_set.proofs.char_set.CharSet.contains.Goals as goal

pub bounds-self-index : goal.bounds-self-index
bounds-self-index c =
    let h = (index_has_place c.args.ch c.in-Some.index
    (sym c.variation_sequence_index_by_block.ensures ∙ c.in-Some.is)).0 in
    omega (arith, entry_count_lem)

pub returns-in-Some : goal.returns-in-Some
unfolding contains member_at member
returns-in-Some c =
    c.has_bit.ensures
    ∙ ap (λ (i : Option ℕ). member_at i c.args.self.bits)
    (sym c.in-Some.is ∙ c.variation_sequence_index_by_block.ensures)

pub returns-in-None : goal.returns-in-None
unfolding contains member_at
returns-in-None c =
    ap (λ (i : Option ℕ). member_at i c.args.self.bits)
    (sym c.in-None.is ∙ c.variation_sequence_index_by_block.ensures)
