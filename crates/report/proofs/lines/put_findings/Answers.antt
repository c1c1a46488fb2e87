use mathlib.Core.Path.{sym, ◌∙◌}
use native.Mathlib.Omega.{arith}
use Rattle.base.proofs.Writer.{begin, finish, pass, put, room}
use Rattle.positions.specs.Positions.{no_count}
use Rattle.message_io.specs.Lines.{finding_line}
use Rattle.report.specs.Report.{lines_from, report_numbers}
use Rattle.report.proofs.Reports.{a_finding, at_end, no_finding_lem}
use Rattle.report.proofs.lines.put_findings.Goals as goal

pub loop-end-init : goal.loop-end-init
loop-end-init c =
    let x = c.args in
    (omega arith, begin (lines_from x.policy x.message.now 0) 0 x.out.now (omega (arith, c.requires)))

pub shape_of-out-in-End : goal.shape_of-out-in-End
shape_of-out-in-End c = c.loop-end.invariant.1.same

pub returns-in-End : goal.returns-in-End
returns-in-End c =
    let x = c.args in
    let p = x.policy in
    let m = x.message.now in
    let l = c.loop-end in
    finish (lines_from p m 0) 0 x.out.now (lines_from p m l.at) l.invariant.1
    (at_end p m l.at no_count (sym c.in-End.is ∙ c.analyze_scan_item.ensures))

pub loop-end-smaller-in-Canonical : goal.loop-end-smaller-in-Canonical
loop-end-smaller-in-Canonical c =
    let x = c.args in
    let l = c.loop-end in
    let e = sym c.in-Canonical.is ∙ c.analyze_scan_item.ensures in
    let s = (no_finding_lem x.policy x.message.now l.at no_count e).0 in
    omega (arith, s.some, s.room)

pub loop-end-preserved-in-Canonical : goal.loop-end-preserved-in-Canonical
loop-end-preserved-in-Canonical c =
    let x = c.args in
    let p = x.policy in
    let m = x.message.now in
    let l = c.loop-end in
    let e = sym c.in-Canonical.is ∙ c.analyze_scan_item.ensures in
    let s = no_finding_lem p m l.at no_count e in
    (s.0.room, pass (lines_from p m 0) 0 x.out.now (lines_from p m l.at) _ l.invariant.1 s.1)

pub put_finding-to-requires : goal.put_finding-to-requires
put_finding-to-requires c =
    let x = c.args in
    let p = x.policy in
    let m = x.message.now in
    let l = c.loop-end in
    let s = a_finding p m l.at no_count (sym c.in-NonCanonical.is ∙ c.analyze_scan_item.ensures) in
    let line = finding_line (report_numbers c.in-NonCanonical.finding) in
    let later = lines_from p m c.in-NonCanonical.finding.end in
    room (lines_from p m 0) 0 x.out.now (lines_from p m l.at) line later l.invariant.1 s.1

pub loop-end-smaller : goal.loop-end-smaller
loop-end-smaller c =
    let x = c.args in
    let l = c.loop-end in
    let a = c.analyze_scan_item.ensures in
    let e = sym c.in-NonCanonical.is ∙ a in
    let s = (a_finding x.policy x.message.now l.at no_count e).0 in
    omega (arith, s.some, s.room)

pub loop-end-preserved : goal.loop-end-preserved
loop-end-preserved c =
    let x = c.args in
    let p = x.policy in
    let m = x.message.now in
    let l = c.loop-end in
    let a = c.analyze_scan_item.ensures in
    let s = a_finding p m l.at no_count (sym c.in-NonCanonical.is ∙ a) in
    let later = lines_from p m c.in-NonCanonical.finding.end in
    let w = c.put_finding-to.ensures in
    (s.0.room, put (lines_from p m 0) 0 x.out.now (lines_from p m l.at) later l.invariant.1 w s.1)
