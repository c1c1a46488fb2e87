use mathlib.Core.Path.{◌≡◌, sym, ◌∙◌, subst}
use mathlib.Core.Bool.{true≢false, ◌||◌}
use Prim.Native.Nat.{◌≤◌}
use borrow.Enum.Refused.{opened}
use native.Mathlib.Omega.{arith}
use Rattle.utf8.proofs.Places.{step}
use Rattle.policy.specs.PolicyBytes.{policy_of}
use Rattle.scanner.specs.Classes.{class_of}
use Rattle.scanner.specs.Items.{kind_of}
use Rattle.scanner.specs.Theorems.{Structured}
use Rattle.scanner.specs.declared.state.State.{State}
use Rattle.text_pass.proofs.Passing.{over_here}
use Rattle.text_pass.proofs.Walking.{
  as_changed,
  begin-char,
  further,
  keeps_on,
  none_kept,
  not_plain,
  now_changed,
  on-char,
  reads-next,
  room,
  structured_inner,
  walking-again,
  walking_begin,
  walking-finds,
  walking_on,
  walking-passes,
}
use Rattle.text_pass.proofs.findings.walk_items.Goals.{then-cell, else-cell, in-Some, in-None+else-ends_after+in_default}
use Rattle.text_pass.proofs.findings.walk_items.Goals as goal

pub overflow_add-at : goal.overflow_add-at
overflow_add-at c =
    let x = c.args in
    let s = step x.text.now x.from x.ch x.width c.requires.0 in
    omega (arith, s.room, c.well_formed.0.0)

pub loop-changed-init : goal.loop-changed-init
loop-changed-init c =
    let x = c.args in
    let q = c.requires in
    let s = step x.text.now x.from x.ch x.width q.0 in
    let i = structured_inner (class_of x.ch) (subst (λ (y : State). Structured (kind_of y)) q.2 q.3) in
    rw q.2 (walking_begin (policy_of x.policy.now) x.text.now x.limit x.from x.first_index (over_here x.from)
    c.empty-counts.ensures s q.1 i)

pub read_cell-cell-requires : goal.read_cell-cell-requires
read_cell-cell-requires c = c.loop-changed.invariant.entry

pub overflow_sub-end : goal.overflow_sub-end
overflow_sub-end c = omega (arith, c.read_cell-cell.ensures.end_is)

pub add_cell-counts-requires : goal.add_cell-counts-requires
add_cell-counts-requires c = c.loop-changed.invariant.entry

pub overflow_add-passed : goal.overflow_add-passed
overflow_add-passed c =
    let l = c.loop-changed.invariant in
    let r = c.read_cell-cell.ensures in
    omega (
      arith,
      l.passed.few,
      further l r,
      room l r,
      c.findings_of-passed.ensures.1,
      c.well_formed.0.0,
    )

pub returns-then-ends_after : goal.returns-then-ends_after
returns-then-ends_after c =
    let l = c.loop-changed.invariant in
    let r = c.read_cell-cell.ensures in
    let d : c.if-cell.changed ≡ (c.loop-changed.changed || c.read_cell-cell.result.changes) = elim c.if-cell.branch [
      | then-cell w ↦ now_changed c.loop-changed.changed w.if-cell.true w.changed-is
      | else-cell w ↦ as_changed c.loop-changed.changed w.if-cell.false w.changed-is
    ] in
    let y = keeps_on l r (omega (arith, c.well_formed.0.0)) c.is_wanted-wanted.ensures c.add_cell-counts.ensures in
    let e = sym c.transition.ensures ∙ c.in-None.is in
    (l.passed, λ _. walking-finds l r d e y c.ends_after.ensures c.if-ends_after.true, λ f. absurd (true≢false f))

pub returns-in-Plain : goal.returns-in-Plain
returns-in-Plain c =
    let l = c.loop-changed.invariant in
    let r = c.read_cell-cell.ensures in
    let d : c.if-cell.changed ≡ (c.loop-changed.changed || c.read_cell-cell.result.changes) = elim c.if-cell.branch [
      | then-cell w ↦ now_changed c.loop-changed.changed w.if-cell.true w.changed-is
      | else-cell w ↦ as_changed c.loop-changed.changed w.if-cell.false w.changed-is
    ] in
    let e = sym c.transition.ensures ∙ c.in-None.is in
    let a = walking-passes l r d e c.ends_after.ensures c.if-ends_after.false c.findings_of-passed.ensures.0 in
    (a, λ f. absurd (true≢false (sym f)), λ _. omega (arith, l.passed.advances.on, further l r))

pub overflow_add-at-in-loop-changed : goal.overflow_add-at-in-loop-changed
overflow_add-at-in-loop-changed c =
    let l = c.loop-changed.invariant in
    let r = c.read_cell-cell.ensures in
    let d : c.if-cell.changed ≡ (c.loop-changed.changed || c.read_cell-cell.result.changes) = elim c.if-cell.branch [
      | then-cell w ↦ now_changed c.loop-changed.changed w.if-cell.true w.changed-is
      | else-cell w ↦ as_changed c.loop-changed.changed w.if-cell.false w.changed-is
    ] in
    let t = c.transition.ensures in
    let n : 1 ≤ c.read_cell-cell.result.packed = elim c.match-transition.branch [
      | in-Some w ↦ on-char l r d w.in-Some.next (sym t ∙ w.in-Some.is)
      | in-None+else-ends_after+in_default w ↦
          let b = w.start_state_by_row-state in
          begin-char l r d (λ e. not_plain b.result (opened w.in_default.in_default-own.keys2) (b.ensures ∙ e))
    ] in
    let s = reads-next l r d n in
    omega (arith, s.room, c.well_formed.0.0)

pub loop-changed-smaller : goal.loop-changed-smaller
loop-changed-smaller c =
    let l = c.loop-changed.invariant in
    let r = c.read_cell-cell.ensures in
    let d : c.if-cell.changed ≡ (c.loop-changed.changed || c.read_cell-cell.result.changes) = elim c.if-cell.branch [
      | then-cell w ↦ now_changed c.loop-changed.changed w.if-cell.true w.changed-is
      | else-cell w ↦ as_changed c.loop-changed.changed w.if-cell.false w.changed-is
    ] in
    let t = c.transition.ensures in
    let n : 1 ≤ c.read_cell-cell.result.packed = elim c.match-transition.branch [
      | in-Some w ↦ on-char l r d w.in-Some.next (sym t ∙ w.in-Some.is)
      | in-None+else-ends_after+in_default w ↦
          let b = w.start_state_by_row-state in
          begin-char l r d (λ e. not_plain b.result (opened w.in_default.in_default-own.keys2) (b.ensures ∙ e))
    ] in
    let s = reads-next l r d n in
    omega (arith, s.room, s.some, r.end_is)

pub loop-changed-preserved : goal.loop-changed-preserved
loop-changed-preserved c =
    let l = c.loop-changed.invariant in
    let r = c.read_cell-cell.ensures in
    let d : c.if-cell.changed ≡ (c.loop-changed.changed || c.read_cell-cell.result.changes) = elim c.if-cell.branch [
      | then-cell w ↦ now_changed c.loop-changed.changed w.if-cell.true w.changed-is
      | else-cell w ↦ as_changed c.loop-changed.changed w.if-cell.false w.changed-is
    ] in
    let y = keeps_on l r (omega (arith, c.well_formed.0.0)) c.is_wanted-wanted.ensures c.add_cell-counts.ensures in
    let t = c.transition.ensures in
    elim c.match-transition.branch [
      | in-Some w ↦ rw (w.start-is, w.state-is, w.changed-is, w.passed-is) (walking_on l r d y w.in-Some.next (sym t ∙ w.in-Some.is))
      | in-None+else-ends_after+in_default w ↦
          let e = sym t ∙ w.in-None.is in
          let b = w.start_state_by_row-state in
          rw (w.start-is, w.state-is ∙ b.ensures, w.changed-is, w.passed-is)
          (walking-again l r d e
          (walking-passes l r d e w.ends_after.ensures w.if-ends_after.false w.findings_of-passed.ensures.0)
          (none_kept l r d e y w.ends_after.ensures w.if-ends_after.false)
          (λ e. not_plain b.result (opened w.in_default.in_default-own.keys2) (b.ensures ∙ e)))
    ]
