use Rattle.std.specs.Prelude.{Err, None, Ok}
use borrow.Author.Rules.{rules}
use mathlib.Core.Path.{◌≡◌, refl, ap, ap₂, sym, ◌∙◌}
use mathlib.Core.List.{List}
use Prim.Native.Nat.{ℕ, ◌+◌, ◌<◌, ◌≤◌, zero-le}
use native.Mathlib.Omega.{arith}
use lib.ListN.{drop, length, length-map, set}
use Rattle.base.proofs.Answering.{ends_as}
use Rattle.policy.specs.PolicyBytes.{policy_of}
use Rattle.policy.specs.declared.Policy.{Policy}
use Rattle.analysis.specs.Findings.{findings_from}
use Rattle.analysis.specs.declared.types.Finding.{Finding}
use Rattle.positions.specs.Positions.{AtPosition}
use Rattle.positions.proofs.Counting.{at_start}
use Rattle.formatter.specs.Findings.{finding_row, findings, listed}
use Rattle.formatter.specs.Intake.{intake_refusal}
use Rattle.formatter.specs.List.{list}
use Rattle.formatter.proofs.Passing.{checked-passed, checked_refused, read-policy}
use Rattle.formatter.proofs.Steps.{rows_from}
use Rattle.listing.proofs.Storing.{all_stored, end_of, list-all, list-short, list_refused, stored, turn}
use Rattle.listing.proofs.table.list_into_table.Goals as goal

-- The number of findings counted is the number of rows.
counted : (text policy : List ℕ) {n : ℕ} → n ≡ length (findings_from (policy_of policy) text 0) → n ≡ length (listed text policy)
unfolding findings
counted text policy e = e ∙ sym (length-map (findings_from (policy_of policy) text 0) (finding_row (policy_of policy) text))

-- The rows under the policy that was read.
rows_same : (text policy : List ℕ) {p : Policy} → p ≡ policy_of policy → rows_from p text 0 ≡ listed text policy
unfolding findings
rows_same text policy e = ap (λ (p : Policy). rows_from p text 0) e

-- The outcome, once all findings are stored.
outcome : (text policy : List ℕ) (table : List Finding) {n k : ℕ} (p : Policy) {ys : List Finding}
    → intake_refusal text policy ≡ None → n ≡ length (listed text policy) → rows_from p text 0 ≡ listed text policy → n ≤ length table
    → ys ≡ stored (rows_from p text 0) table k → k ≡ length (rows_from p text 0)
    → record { answer = Ok n; buffer = ys } ≡ list text policy table
outcome text policy table {n} {k} p e c same room held all =
    let m : k ≡ n = all ∙ ap length same ∙ sym c in
    ap (λ (zs : List Finding). record { answer = Ok n; buffer = zs })
    (held ∙ ap₂ (λ (rows : List Finding) (i : ℕ). stored rows table i) same m)
    ∙ list-all text policy table e c room

pub returns-in_err-intake : goal.returns-in_err-intake
returns-in_err-intake c =
    let x = c.args in
    let r : c.from_residual.result ≡ Err c.in_err-intake.field-0.0 = search rules in
    rw r (ends_as (list_refused x.text.now x.policy.now x.table.now c.in_err-intake.field-0.0
    (checked_refused (intake_refusal x.text.now x.policy.now) c.in_err-intake.field-0.0 (sym c.intake.ensures.same ∙ c.in_err-intake.was))))

pub returns-then-table-findings : goal.returns-then-table-findings
returns-then-table-findings c =
    let x = c.args in
    let e = checked-passed (intake_refusal x.text.now x.policy.now) (sym c.intake.ensures.same ∙ c.in_ok-intake.was) in
    ends_as (list-short x.text.now x.policy.now x.table.now e (counted x.text.now x.policy.now c.count_findings-findings.ensures.findings)
    c.if-table-findings.true)

pub loop-place-init : goal.loop-place-init
loop-place-init c = (zero-le, at_start c.args.text.now (omega (arith, c.well_formed)), refl, refl)

-- The turn of the loop: what it stores has room, and what holds after it.
turned : (c : goal.In-Some) → let rows = rows_from c.read_policy.result.policy c.args.text.now 0 in
    let l = c.loop-place in
    let f = c.in-Some.finding in
    (length rows ≤ length c.args.table.now)
    × (l.place < length rows)
    × (set (stored rows c.args.table.now l.place) l.place f ≡ stored rows c.args.table.now (l.place + 1))
    × (rows_from c.read_policy.result.policy c.args.text.now f.end ≡ drop (l.place + 1) rows)
    × AtPosition c.args.text.now f.end (end_of f)
turned c =
    let x = c.args in
    let t = x.text.now in
    let l = c.loop-place in
    let p = c.read_policy.result.policy in
    let rows = rows_from p t 0 in
    let same = rows_same t x.policy.now (read-policy x.policy.now c.read_policy.ensures) in
    let n = counted t x.policy.now c.count_findings-findings.ensures.findings in
    let room : length rows ≤ length x.table.now = omega (arith, ap length same, n, c.if-table-findings.false) in
    let on = turn p t rows x.table.now l.place l.at l.before c.in-Some.finding l.invariant.1 l.invariant.2 room
    (sym c.in-Some.is ∙ c.first_finding.ensures l.invariant.1) in
    (room, on.0, on.1, on.2, on.3)

pub offset_bounds-table-place : goal.offset_bounds-table-place
offset_bounds-table-place c = let on = turned c in omega (arith, on.0, on.1, c.well_formed)

pub bounds-table-place : goal.bounds-table-place
bounds-table-place c = let on = turned c in omega (arith, on.0, on.1, c.loop-place.auto.table)

pub loop-place-preserved : goal.loop-place-preserved
loop-place-preserved c =
    let on = turned c in
    let l = c.loop-place in (
      omega (arith, on.1),
      on.4,
      on.3,
      ap (λ (ys : List Finding). set ys l.place c.in-Some.finding) l.invariant.3 ∙ on.2,
    )

pub returns-in_default : goal.returns-in_default
returns-in_default c =
    let x = c.args in
    let t = x.text.now in
    let l = c.loop-place in
    let p = c.read_policy.result.policy in
    let e = checked-passed (intake_refusal t x.policy.now) (sym c.intake.ensures.same ∙ c.in_ok-intake.was) in
    let n = counted t x.policy.now c.count_findings-findings.ensures.findings in
    let same = rows_same t x.policy.now (read-policy x.policy.now c.read_policy.ensures) in
    ends_as (outcome t x.policy.now x.table.now p e n same (omega (arith, c.if-table-findings.false)) l.invariant.3
    (all_stored p t (rows_from p t 0) l.place l.at l.invariant.2 l.invariant.0
    (sym c.in_default.is ∙ c.first_finding.ensures l.invariant.1)))

pub returns : goal.returns
returns c =
    let x = c.args in
    let t = x.text.now in
    let l = c.loop-place in
    let p = c.read_policy.result.policy in
    let e = checked-passed (intake_refusal t x.policy.now) (sym c.intake.ensures.same ∙ c.in_ok-intake.was) in
    let n = counted t x.policy.now c.count_findings-findings.ensures.findings in
    let same = rows_same t x.policy.now (read-policy x.policy.now c.read_policy.ensures) in
    ends_as (outcome t x.policy.now x.table.now p e n same (omega (arith, c.if-table-findings.false)) l.invariant.3
    (omega (arith, l.invariant.0, c.loop-place-test.false, n, ap length same)))
