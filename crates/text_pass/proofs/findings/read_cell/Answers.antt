-- `text_pass::findings::read_cell` meets its contract: `read_end` (`Walking`) puts together what was read.
use mathlib.Core.Path.{◌∙◌}
use lib.ListN.{drop}
use Rattle.utf8.specs.Rfc3629.{chars}
use Rattle.policy.specs.PolicyBytes.{policy_of}
use Rattle.analysis.proofs.CellsAt.{first-leads, selectors_end}
use Rattle.text_pass.proofs.Walking.{read_end}
use Rattle.text_pass.proofs.findings.read_cell.Goals as goal

pub returns : goal.returns
returns c =
    let x = c.args in
    let e = c.selectors_after-end in
    let d = c.decode-packed in
    let k = c.classify-class in
    read_end (policy_of x.policy.now) x.text.now x.base x.at
    c.selector_at-first.result e.result d.result k.result.class k.result.index
    c.cell_changes-changes.result
    (c.selector_at-first.ensures ∙ first-leads (chars (drop x.at x.text.now)))
    (e.ensures ∙ selectors_end x.text.now x.at) d.ensures k.ensures.class k.ensures.index c.cell_changes-changes.ensures
