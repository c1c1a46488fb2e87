-- `membership_flips::pass::flag_entry` meets its contract.
use native.Mathlib.Omega.{arith}
use Rattle.membership_flips.proofs.Flagging.{next_class, entry-not-judged, entry-judged}
use Rattle.membership_flips.proofs.pass.flag_entry.Goals as goal

pub returns-then-not-is_judged : goal.returns-then-not-is_judged
returns-then-not-is_judged c =
    let x = c.args in
    let t = x.text.now in
    entry-not-judged t x.at x.index x.flags.now (next_class t x.at x.index x.flags.now
    c.selectors_end-end.ensures c.class_at-next.ensures) c.is_judged.ensures
    c.if-not-is_judged.true

pub flag_index-flag-requires : goal.flag_index-flag-requires
flag_index-flag-requires c = c.requires.0

pub bounds-flags-flag : goal.bounds-flags-flag
bounds-flags-flag c =
    omega (arith, c.flag_index-flag.ensures.1, c.requires.1)

pub returns : goal.returns
returns c =
    let x = c.args in
    let t = x.text.now in
    entry-judged t x.at x.index x.flags.now (next_class t x.at x.index x.flags.now
    c.selectors_end-end.ensures c.class_at-next.ensures)
    c.is_judged.ensures c.if-not-is_judged.false
    c.selector_at-first.ensures c.is_keycap.ensures c.flag_index-flag.ensures.0
