use mathlib.Core.Path.{refl, sym, ap, ◌∙◌}
use mathlib.Core.List.{map}
use native.Mathlib.Omega.{arith}
use Rattle.formatter.specs.Findings.{finding_row}
use Rattle.formatter.proofs.Steps.{analysis_says}
use Rattle.listing.proofs.Storing.{first-none, first_some, row_here}
use Rattle.listing.proofs.table.first_finding.Goals as goal

pub loop-end-init : goal.loop-end-init
loop-end-init c = λ a. (a, refl)

pub returns-in-End : goal.returns-in-End
returns-in-End c =
    let x = c.args in
    let l = c.loop-end in
    let p = x.policy in
    let t = x.text.now in
    let s = analysis_says p t l.at l.before
    (sym c.in-End.is ∙ c.analyze_scan_item.ensures) in
    λ a. first-none p t x.start ((l.invariant a).1 ∙ ap (map (finding_row p t)) s)

pub loop-end-smaller : goal.loop-end-smaller
loop-end-smaller c =
    let x = c.args in
    let l = c.loop-end in
    let s = analysis_says x.policy x.text.now l.at l.before
    (sym c.in-Canonical.is ∙ c.analyze_scan_item.ensures) in
    omega (arith, s.0.some, s.0.room)

pub loop-end-preserved : goal.loop-end-preserved
loop-end-preserved c =
    let x = c.args in
    let l = c.loop-end in
    let p = x.policy in
    let t = x.text.now in
    let s = analysis_says p t l.at l.before
    (sym c.in-Canonical.is ∙ c.analyze_scan_item.ensures) in
    λ a. let i = l.invariant a in (s.2 i.0, i.1 ∙ ap (map (finding_row p t)) s.1)

pub returns-in-NonCanonical : goal.returns-in-NonCanonical
returns-in-NonCanonical c =
    let x = c.args in
    let l = c.loop-end in
    let p = x.policy in
    let t = x.text.now in
    let s = analysis_says p t l.at l.before
    (sym c.in-NonCanonical.is ∙ c.analyze_scan_item.ensures) in
    λ a. let i = l.invariant a in first_some p t x.start (i.1 ∙ row_here p t s.1 i.0)
