-- `CharSet::singleton` meets its contract: the only one is the bit at the character's index.
use mathlib.Core.Path.{sym, ◌∙◌}
use native.Mathlib.Omega.{arith}
use Rattle.policy_key_set.proofs.Entries.{entry_count_lem, index_has_place, nothing-held, singleton_held}
use Rattle.policy_key_set.proofs.char_set.CharSet.singleton.Goals as goal

pub bounds-bits-index : goal.bounds-bits-index
bounds-bits-index c =
    let h = (index_has_place c.args.ch c.in-Some.index
    (sym c.variation_sequence_index.ensures ∙ c.in-Some.is)).0 in
    omega (arith, entry_count_lem)

pub returns-in-Some : goal.returns-in-Some
returns-in-Some c =
    singleton_held c.args.ch c.in-Some.index c.bit.result
    (sym c.variation_sequence_index.ensures ∙ c.in-Some.is) c.bit.ensures

pub returns-in_default : goal.returns-in_default
returns-in_default c = nothing-held c.args.ch (sym c.variation_sequence_index.ensures ∙ c.in_default.is)
