-- `listing::table::list_few` meets its contract: the table of eight empty findings, after `list_into_table`.
use Rattle.base.specs.declared.Refusal.{Refusal}
use mathlib.Core.Path.{ap, ◌∙◌}
use Rattle.std.specs.Prelude.{replicate, Result, ℕ}
use Rattle.base.proofs.Answering.{whole}
use Rattle.base.specs.Refusals.{After}
use Rattle.analysis.specs.declared.types.Finding.{Finding}
use Rattle.formatter.specs.List.{list}
use Rattle.listing.specs.Table.{few_findings}
use Rattle.listing.proofs.table.list_few.Goals as goal

pub returns : goal.returns
unfolding few_findings
returns c =
    let x = c.args in
    let after = whole c.list_into_table-answer.ensures
    ∙ ap (λ (f : Finding). list x.text.now x.policy.now (replicate 8 f)) c.no_finding-findings.ensures in
    ap (λ (a : After (Result ℕ Refusal) Finding). record { answer = a.answer; findings = a.buffer }) after
