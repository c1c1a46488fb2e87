use mathlib.Core.Path.{refl, ap, sym, ◌∙◌}
use mathlib.Core.Bool.{true≢false}
use Prim.Native.Nat.{◌-◌, ◌/◌}
use native.Mathlib.Omega.{arith}
use lib.ListN.{drop}
use Rattle.utf8.proofs.Packed.{packed-reads, packed_step, packed_stop}
use Rattle.policy.specs.PolicyBytes.{policy_of}
use Rattle.scanner.specs.Items.{start_state}
use Rattle.analysis.proofs.CellsAt.{selectors_end}
use Rattle.text_pass.proofs.Passing.{
  finds_room,
  finds_some,
  over_finding,
  over_here,
  over_on,
  over_passes,
  passed,
  passes_on,
  passes_plain,
  passes_skip,
}
use Rattle.text_pass.proofs.Walking.{selectors_find, structured_place}
use borrow.Enum.Refused.{opened}
use Rattle.text_pass.proofs.findings.next_finding.Goals as goal

pub loop-limit-init : goal.loop-limit-init
loop-limit-init c = over_here _

pub returns-then-packed-eq0 : goal.returns-then-packed-eq0
returns-then-packed-eq0 c =
    let x = c.args in
    let a = passes_skip x.policy.now x.text.now c.ascii_keys_bare-bare.ensures
    c.loop-limit.invariant c.skip_bare_ascii-at.ensures in
    let z = packed_stop x.text.now c.skip_bare_ascii-at.result c.decode-packed.result
    c.decode-packed.ensures c.if-packed-eq0.true in
    (a, λ f. absurd (true≢false (sym f)), λ _. (z.chars_none, refl, c.empty.ensures))

pub overflow_add-at : goal.overflow_add-at
overflow_add-at c =
    let x = c.args in
    let s = packed_step x.text.now c.skip_bare_ascii-at.result
    c.decode-packed.result c.decode-packed.ensures
    c.if-packed-eq0.false in
    omega (arith, s.room, c.well_formed.0.0)

pub loop-limit-smaller-in-Plain : goal.loop-limit-smaller-in-Plain
loop-limit-smaller-in-Plain c =
    let x = c.args in
    let p = policy_of x.policy.now in
    let k = passed x.policy.now x.text.now
    c.ascii_keys_bare-bare.ensures
    c.skip_bare_ascii-at.ensures in
    let s = packed_step x.text.now c.skip_bare_ascii-at.result
    c.decode-packed.result
    c.decode-packed.ensures c.if-packed-eq0.false in
    let q = (c.skip_letters-at.ensures p).0 in
    omega (arith, k.advances.on, s.some, s.room, q.advances.on, q.advances.inside s.room)

pub loop-limit-preserved-in-Plain : goal.loop-limit-preserved-in-Plain
loop-limit-preserved-in-Plain c =
    let x = c.args in
    let p = policy_of x.policy.now in
    let a = passes_skip x.policy.now x.text.now
    c.ascii_keys_bare-bare.ensures
    c.loop-limit.invariant
    c.skip_bare_ascii-at.ensures in
    let s = packed_step x.text.now c.skip_bare_ascii-at.result
    c.decode-packed.result
    c.decode-packed.ensures c.if-packed-eq0.false in
    let b = ap start_state (sym c.classify-class.ensures.class)
    ∙ sym c.start_state-state.ensures
    ∙ c.in-Plain.is in
    over_passes a (passes_on (passes_plain p s b) (c.skip_letters-at.ensures p).1)

pub overflow_sub-end : goal.overflow_sub-end
overflow_sub-end c =
    let x = c.args in
    let e = c.selectors_end-end.ensures
    ∙ selectors_end x.text.now c.skip_bare_ascii-at.result in
    omega (arith, e)

pub returns-then-limit-end : goal.returns-then-limit-end
returns-then-limit-end c =
    let x = c.args in
    let p = policy_of x.policy.now in
    let a = passes_skip x.policy.now x.text.now
    c.ascii_keys_bare-bare.ensures
    c.loop-limit.invariant
    c.skip_bare_ascii-at.ensures in
    let s = packed_step x.text.now c.skip_bare_ascii-at.result
    c.decode-packed.result
    c.decode-packed.ensures
    c.if-packed-eq0.false in
    let b = ap start_state (sym c.classify-class.ensures.class)
    ∙ sym c.start_state-state.ensures ∙ c.in-Selectors.is in
    let e = c.selectors_end-end.ensures
    ∙ selectors_end x.text.now c.skip_bare_ascii-at.result in
    let f = selectors_find p s b c.selectors_end-end.result
    ((c.selectors_end-end.result -
    c.skip_bare_ascii-at.result) / 3) e refl
    c.unsanctioned.ensures in
    (a, λ _. (omega (arith, c.if-limit-end.true), f.finds, λ _. f), λ h. absurd (true≢false h))

pub overflow_add-passed : goal.overflow_add-passed
overflow_add-passed c =
    let x = c.args in
    let a = passes_skip x.policy.now x.text.now
    c.ascii_keys_bare-bare.ensures
    c.loop-limit.invariant
    c.skip_bare_ascii-at.ensures in
    let s = packed_step x.text.now c.skip_bare_ascii-at.result
    c.decode-packed.result
    c.decode-packed.ensures
    c.if-packed-eq0.false in
    omega (
      arith,
      a.few,
      s.room,
      s.some,
      c.well_formed.0.0,
    )

pub loop-limit-smaller-in-Selectors : goal.loop-limit-smaller-in-Selectors
loop-limit-smaller-in-Selectors c =
    let x = c.args in
    let p = policy_of x.policy.now in
    let k = passed x.policy.now x.text.now
    c.ascii_keys_bare-bare.ensures
    c.skip_bare_ascii-at.ensures in
    let s = packed_step x.text.now c.skip_bare_ascii-at.result
    c.decode-packed.result
    c.decode-packed.ensures
    c.if-packed-eq0.false in
    let b = ap start_state (sym c.classify-class.ensures.class)
    ∙ sym c.start_state-state.ensures ∙ c.in-Selectors.is in
    let e = c.selectors_end-end.ensures
    ∙ selectors_end x.text.now c.skip_bare_ascii-at.result in
    let f = selectors_find p s b c.selectors_end-end.result
    ((c.selectors_end-end.result - c.skip_bare_ascii-at.result) /
    3) e refl refl in
    omega (arith, k.advances.on, s.room, s.some, finds_some f.finds, finds_room f.finds)

pub loop-limit-preserved-in-Selectors : goal.loop-limit-preserved-in-Selectors
loop-limit-preserved-in-Selectors c =
    let x = c.args in
    let p = policy_of x.policy.now in
    let a = passes_skip x.policy.now x.text.now
    c.ascii_keys_bare-bare.ensures
    c.loop-limit.invariant
    c.skip_bare_ascii-at.ensures in
    let s = packed_step x.text.now c.skip_bare_ascii-at.result
    c.decode-packed.result
    c.decode-packed.ensures
    c.if-packed-eq0.false in
    let b = ap start_state (sym c.classify-class.ensures.class)
    ∙ sym c.start_state-state.ensures ∙ c.in-Selectors.is in
    let e = c.selectors_end-end.ensures
    ∙ selectors_end x.text.now c.skip_bare_ascii-at.result in
    let f = selectors_find p s b c.selectors_end-end.result
    ((c.selectors_end-end.result - c.skip_bare_ascii-at.result) /
    3) e refl refl in
    over_on a (over_finding f.finds (omega (arith, c.if-limit-end.false)))

pub walk_items-start-requires : goal.walk_items-start-requires
walk_items-start-requires c =
    let x = c.args in
    let d = c.decode-packed in
    let k = c.classify-class.ensures in
    let b = c.start_state-state in (
      packed-reads (drop c.skip_bare_ascii-at.result x.text.now) d.result d.ensures
          (omega (arith, c.if-packed-eq0.false)),
      sym k.index,
      b.ensures ∙ ap start_state k.class,
      structured_place b.result (opened c.in_default.in_default-own.keys3),
    )

pub overflow_add-passed-in_default : goal.overflow_add-passed-in_default
overflow_add-passed-in_default c =
    let x = c.args in
    let a = passes_skip x.policy.now x.text.now
    c.ascii_keys_bare-bare.ensures
    c.loop-limit.invariant
    c.skip_bare_ascii-at.ensures in
    let s = packed_step x.text.now c.skip_bare_ascii-at.result
    c.decode-packed.result
    c.decode-packed.ensures c.if-packed-eq0.false in
    let w = c.walk_items-start.ensures.0 in
    omega (
      arith,
      a.advances.on,
      a.few,
      w.advances.on,
      w.few,
      w.advances.inside (omega (arith, s.room)),
      c.well_formed.0.0,
    )

pub returns-then-present : goal.returns-then-present
returns-then-present c =
    let x = c.args in
    let a = passes_skip x.policy.now x.text.now
    c.ascii_keys_bare-bare.ensures
    c.loop-limit.invariant
    c.skip_bare_ascii-at.ensures in
    let w = c.walk_items-start.ensures in
    (over_on a w.0, w.1, λ f. absurd (true≢false (sym c.if-present.true ∙ f)))

pub loop-limit-smaller : goal.loop-limit-smaller
loop-limit-smaller c =
    let x = c.args in
    let k = passed x.policy.now x.text.now
    c.ascii_keys_bare-bare.ensures
    c.skip_bare_ascii-at.ensures in
    let s = packed_step x.text.now c.skip_bare_ascii-at.result
    c.decode-packed.result
    c.decode-packed.ensures
    c.if-packed-eq0.false in
    let w = c.walk_items-start.ensures in
    omega (arith, k.advances.on, s.room, s.some, w.2 c.if-present.false, w.0.advances.inside (omega (arith, s.room)))

pub loop-limit-preserved : goal.loop-limit-preserved
loop-limit-preserved c =
    let x = c.args in
    let a = passes_skip x.policy.now x.text.now
    c.ascii_keys_bare-bare.ensures
    c.loop-limit.invariant
    c.skip_bare_ascii-at.ensures in
    over_on a c.walk_items-start.ensures.0
