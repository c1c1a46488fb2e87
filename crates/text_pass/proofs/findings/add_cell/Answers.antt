-- `text_pass::findings::add_cell` meets its contract.
use Rattle.text_pass.proofs.findings.add_cell.Goals as goal

pub returns-then-not-wanted : goal.returns-then-not-wanted
returns-then-not-wanted c = simp c.if-not-wanted.true

pub returns : goal.returns
returns c =
    simp (
      c.if-not-wanted.false,
      c.add.ensures,
      c.analyze_by_index-outcome.ensures c.requires,
    )
