-- `replacing::choice::unit_end` meets its contract: the unit begins after the selectors at the offset and ends where the next link begins.
use mathlib.Core.Path.{sym, ◌∙◌}
use Rattle.scanner.proofs.Peek.{seen, unseen}
use Rattle.analysis.proofs.ChoicesAt.{first_cell, unit_none, unit_on}
use Rattle.replacing.proofs.choice.unit_end.Goals as goal

pub returns-in-Some : goal.returns-in-Some
returns-in-Some c =
    let x = c.args in
    let r = c.run_end-start in
    let k = seen x.raw.now r.result (sym c.peek.ensures ∙ c.in-Some.is) in
    unit_on x.raw.now x.at r.result (r.ensures ∙ first_cell x.raw.now x.at) c.end_before_link.result k
    c.end_before_link.ensures

pub returns-in-None : goal.returns-in-None
returns-in-None c =
    let x = c.args in
    let r = c.run_end-start in
    let k = unseen x.raw.now r.result (sym c.peek.ensures ∙ c.in-None.is) in
    unit_none x.raw.now x.at r.result (r.ensures ∙ first_cell x.raw.now x.at) k
