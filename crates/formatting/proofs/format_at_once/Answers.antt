-- `formatting::format_at_once` meets its contract: it writes the first change, and then the rest of the text.
use mathlib.Core.Path.{sym}
use native.Mathlib.Omega.{arith}
use Rattle.base.proofs.Writer.{begin, put_as, put_then}
use Rattle.policy.specs.PolicyBytes.{policy_of}
use Rattle.text_pass.specs.Changes.{formatted_from}
use Rattle.formatter.specs.Theorems.{IntakeComesFirst}
use Rattle.formatting.proofs.ByCells.{format-written}
use Rattle.formatter.proofs.Outcomes.{all_well_formed, comes_first, not_well_formed}
use Rattle.formatting.proofs.Surveying.{
  change_formatted,
  change-put,
  change-room,
  first_counted,
  first-inside,
  passed,
  second-inside,
  second-valid,
}
use Rattle.formatting.proofs.format_at_once.Goals as goal

pub valid_after-valid_up_to-requires : goal.valid_after-valid_up_to-requires
valid_after-valid_up_to-requires c = second-inside (policy_of c.args.policy.now) c.args.text.now c.requires.0.is_next
    c.next_change-second.ensures

pub returns-then-valid_up_to-text : goal.returns-then-valid_up_to-text
unfolding IntakeComesFirst
returns-then-valid_up_to-text c =
    let t = c.args.text.now in
    let p = c.args.policy.now in
    let f = c.requires.0.is_next in
    sym ((comes_first t p _ (not_well_formed t p c.requires.0.short c.requires.0.is_policy_lem
    (second-valid (policy_of p) t f c.next_change-second.ensures c.valid_after-valid_up_to.ensures) c.if-valid_up_to-text.true)).0
    c.args.out.now)

pub put_change-to-requires : goal.put_change-to-requires
put_change-to-requires c =
    let t = c.args.text.now in
    let p = c.args.policy.now in
    let f = c.requires.0.is_next in
    let h = passed (policy_of p) t (omega arith) f in
    let w = begin (formatted_from (policy_of p) t 0) 0 c.args.out.now (omega (arith, c.requires.1)) in
    (omega arith, omega (arith, h.after, h.inside), change-room (policy_of p) t w h)

pub put_changes-requires : goal.put_changes-requires
put_changes-requires c =
    let t = c.args.text.now in
    let p = c.args.policy.now in
    let f = c.requires.0.is_next in
    let h = passed (policy_of p) t (omega arith) f in
    let b = begin (formatted_from (policy_of p) t 0) 0 c.args.out.now (omega (arith, c.requires.1)) in
    let w = change-put (policy_of p) t b h c.put_change-to.ensures in (
      first-inside (policy_of p) t f,
      c.next_change-second.ensures,
      omega
          (arith, w.ahead, w.fits, w.same),
    )

pub returns : goal.returns
returns c =
    let t = c.args.text.now in
    let p = c.args.policy.now in
    let f = c.requires.0.is_next in
    let h = passed (policy_of p) t (omega arith) f in
    let w = put_as _ (sym (change_formatted (policy_of p) t h))
    (put_then c.put_change-to.ensures c.put_changes.ensures) in
    let a = all_well_formed t p c.requires.0.short c.requires.0.is_policy_lem
    (second-valid (policy_of p) t f c.next_change-second.ensures
    c.valid_after-valid_up_to.ensures)
    c.if-valid_up_to-text.false in
    format-written p t a c.args.out.now _ _ _ (first_counted (policy_of p) t f c.requires.0.is_present) (omega (arith, w.ends))
    (omega (arith, w.ends, c.requires.1)) w
