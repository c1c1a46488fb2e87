-- `text_pass::change_at` meets its contract: at a base with its selectors, at a selector, and at any other character.
use Rattle.text_pass.proofs.PlainText.{stays_plain}
use Rattle.text_pass.proofs.Staying.{stays_on}
use Rattle.text_pass.proofs.Bases.{change_at_base, change_at_selector, entry_no_selector, plain_char}
use Rattle.policy.specs.PolicyBytes.{policy_of}
use Rattle.scanner.proofs.SelectorChars.{selector_value}
use Rattle.analysis.proofs.CellsAt.{selectors_end}
use Rattle.utf8.proofs.Places.{Step, step}
use native.Mathlib.Omega.{arith}
use Prim.Native.Nat.{ℕ, ◌+◌}
use mathlib.Core.Bool.{true≢false}
use mathlib.Core.Path.{sym, ◌∙◌, subst}
use Rattle.text_pass.proofs.change_at.Goals as goal

pub overflow_add-next : goal.overflow_add-next
overflow_add-next c =
    let x = c.args in
    let s = step x.text.now x.at x.ch x.width c.requires in
    omega (arith, s.room, c.well_formed.0.0)

pub base_change-requires : goal.base_change-requires
base_change-requires c = sym c.variation_sequence_index_by_block.ensures ∙ c.in-Some.is

pub returns-in-Some : goal.returns-in-Some
returns-in-Some c =
    let x = c.args in
    let s = step x.text.now x.at x.ch x.width c.requires in
    change_at_base (policy_of x.policy.now) s
    (entry_no_selector x.ch _ (sym c.variation_sequence_index_by_block.ensures
    ∙ c.in-Some.is)) c.base_change.result c.base_change.ensures

pub returns-in-Some-from_selector : goal.returns-in-Some-from_selector
returns-in-Some-from_selector c =
    let x = c.args in
    let s = step x.text.now x.at x.ch x.width
    c.requires in
    let q = c.in-Some-from_selector.field-0 in
    let h = subst (λ (v : ℕ). Step x.text.now x.at v x.width)
    (selector_value x.ch q (sym c.from_selector.ensures ∙ c.in-Some-from_selector.is)) s in
    change_at_selector (policy_of x.policy.now) q h c.selectors_end.result
    (c.selectors_end.ensures ∙ selectors_end x.text.now (x.at + x.width))

pub returns : goal.returns
returns c =
    let x = c.args in
    let s = step x.text.now x.at x.ch x.width
    c.requires in
    let n = plain_char x.ch (sym c.variation_sequence_index_by_block.ensures
    ∙ c.in_default.is)
    (sym c.from_selector.ensures ∙ c.in_default-from_selector.is) in
    let alike = c.skip_alike-end.ensures (policy_of x.policy.now) in (
      λ f. absurd (true≢false (sym f)),
      λ _.
          (stays_on (stays_plain (policy_of x.policy.now) s n) alike, omega (arith, s.some, alike.advances.on)),
    )
