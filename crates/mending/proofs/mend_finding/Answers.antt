-- `mending::mend_finding` meets its contract: it measures the finding's bytes, tests the decisions, and writes the text.
use Rattle.std.specs.Prelude.{Err}
use borrow.Author.Rules.{rules}
use mathlib.Core.Path.{◌≡◌, refl, sym, ◌∙◌}
use mathlib.Core.List.{map}
use native.Mathlib.Omega.{arith}
use Rattle.analysis.specs.Decisions.{decisions_refusal, meaning}
use Rattle.analysis.proofs.Rendering.{measured}
use Rattle.analysis.proofs.Replacing.{part, part-within}
use Rattle.mending.proofs.Exchanging.{mend-tested}
use Rattle.formatter.proofs.Passing.{checked-passed, checked_refused, read-policy}
use Rattle.text_pass.proofs.Passing.{finds_room, finds_some}
use Rattle.mending.proofs.mend_finding.Goals as goal

pub slice_bounds-measure_cells-count : goal.slice_bounds-measure_cells-count
slice_bounds-measure_cells-count c = omega (arith, finds_some c.requires.1.finds)

pub slice_bounds-measure_cells-start : goal.slice_bounds-measure_cells-start
slice_bounds-measure_cells-start c = omega (arith, finds_some c.requires.1.finds)

pub slice_bounds-measure_cells-end : goal.slice_bounds-measure_cells-end
slice_bounds-measure_cells-end c = omega (arith, finds_room c.requires.1.finds)

pub returns-in_err-check_decisions : goal.returns-in_err-check_decisions
returns-in_err-check_decisions c =
    let x = c.args in
    let f = c.in_err-check_decisions in
    let r : c.from_residual.result ≡ Err f.field-0.0 = search rules in
    let q = read-policy x.policy.now c.read_policy.ensures in
    let m = c.measure_cells-len in
    let d = checked_refused (decisions_refusal m.result.counts.presentation_decisions x.decisions.now) f.field-0.0
    (sym c.check_decisions.ensures.same ∙ f.was) in
    rw r (mend-tested x.policy.now x.text.now c.requires.0 x.offset x.decisions.now c.requires.1 q m.ensures.counts d
    x.out.now refl)

pub exchange-requires : goal.exchange-requires
exchange-requires c =
    let x = c.args in
    let f = c.requires.1.finds in
    let short = c.requires.0.short in
    let raw = part x.text.now x.offset x.end in (
      omega (arith, finds_some f),
      finds_room f,
      short,
      c.measure_cells-len.ensures.len
          ∙ measured c.read_policy.result.policy raw
          (map meaning x.decisions.now) (omega (arith, short, part-within x.text.now x.offset x.end)),
    )

pub returns : goal.returns
returns c =
    let x = c.args in
    let r = read-policy x.policy.now c.read_policy.ensures in
    let m = c.measure_cells-len in
    let d = checked-passed (decisions_refusal m.result.counts.presentation_decisions x.decisions.now)
    (sym c.check_decisions.ensures.same ∙ c.in_ok-check_decisions.was) in
    mend-tested x.policy.now x.text.now c.requires.0 x.offset x.decisions.now c.requires.1 r m.ensures.counts d x.out.now
    c.exchange.ensures
