use mathlib.Core.Path.{subst}
use native.Mathlib.Omega.{arith}
use Rattle.positions.proofs.Counting.{at_start}
use Rattle.policy.specs.PolicyBytes.{policy_of}
use Rattle.formatter.specs.Findings.{findings}
use Rattle.findings_near.specs.Helpers.{GivesRow}
use Rattle.findings_near.proofs.NearestPass.{nearing_begin, nearing-end, nearing-on}
use Rattle.findings_near.proofs.nearest.nearest_in.Goals as goal

pub loop-finding-init : goal.loop-finding-init
loop-finding-init c =
    let x = c.args in
    nearing_begin (policy_of x.policy.now) x.text.now x.offset (at_start x.text.now (omega (arith, c.well_formed.0.1)))

pub next_row-requires : goal.next_row-requires
next_row-requires c = c.loop-finding.invariant.position

pub returns-in-End : goal.returns-in-End
unfolding findings
returns-in-End c =
    let x = c.args in
    let p = policy_of x.policy.now in
    let s = c.loop-finding.invariant in
    let e = nearing-end p x.text.now x.offset s (subst (GivesRow p x.text.now c.loop-finding.at) c.in-End.is c.next_row.ensures) in
    record { nearest = e.0; valid = e.1; some = s.some_byte }

pub closer_of-requires : goal.closer_of-requires
closer_of-requires c =
    let x = c.args in (
      c.loop-finding.invariant.some_byte,
      (subst (GivesRow (policy_of x.policy.now) x.text.now c.loop-finding.at) c.in-Found.is c.next_row.ensures).some,
    )

pub loop-finding-smaller : goal.loop-finding-smaller
loop-finding-smaller c =
    let x = c.args in
    let f = subst (GivesRow (policy_of x.policy.now) x.text.now c.loop-finding.at) c.in-Found.is c.next_row.ensures in
    omega (arith, f.on, f.some, f.room)

pub loop-finding-preserved : goal.loop-finding-preserved
loop-finding-preserved c =
    let x = c.args in
    let p = policy_of x.policy.now in
    nearing-on p x.text.now x.offset c.loop-finding.invariant
    (subst (GivesRow p x.text.now c.loop-finding.at) c.in-Found.is c.next_row.ensures) c.closer_of.ensures
