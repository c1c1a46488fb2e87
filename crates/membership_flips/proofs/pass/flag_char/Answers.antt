-- `membership_flips::pass::flag_char` meets its contract.
use mathlib.Core.Path.{sym, ◌∙◌}
use Rattle.membership_flips.proofs.Flagging.{entry_small, with_entry-char, with_no_entry}
use Rattle.membership_flips.proofs.pass.flag_char.Goals as goal

pub flag_entry-requires : goal.flag_entry-requires
flag_entry-requires c = (
  entry_small c.args.ch
      c.in-Some.index (sym c.variation_sequence_index_by_block.ensures
      ∙ c.in-Some.is),
  c.requires,
)

pub returns-in-Some : goal.returns-in-Some
returns-in-Some c =
    let x = c.args in
    with_entry-char x.text.now x.at c.in-Some.index x.flags.now x.ch
    (sym c.variation_sequence_index_by_block.ensures
    ∙ c.in-Some.is) c.flag_entry.ensures

pub returns-in_default : goal.returns-in_default
returns-in_default c =
    let x = c.args in
    with_no_entry x.ch _ x.flags.now (sym c.variation_sequence_index_by_block.ensures ∙ c.in_default.is)
