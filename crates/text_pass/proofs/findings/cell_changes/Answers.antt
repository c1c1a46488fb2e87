-- `text_pass::findings::cell_changes` meets its contract, with a variation entry (`entry_changes` of `Walking`) and without one
-- (`no_entry_changes`).
use mathlib.Core.Path.{ap₂, sym, ◌∙◌}
use mathlib.Core.Bool.{◌&&◌, not}
use Prim.Native.Nat.{ℕ}
use lib.Dec.{eqb, leb}
use Rattle.policy.specs.PolicyBytes.{policy_of}
use Rattle.text_pass.specs.Changes.{selector_of}
use Rattle.text_pass.proofs.NumberedSelectors.{number_selector}
use Rattle.text_pass.proofs.Walking.{entry_changes, no_entry_changes}
use Rattle.text_pass.proofs.findings.cell_changes.Goals as goal

pub kept_number-requires : goal.kept_number-requires
kept_number-requires c = (c.requires ∙ c.in-Some.is, c.number_of-number.ensures.1)

pub returns-in-Some : goal.returns-in-Some
returns-in-Some c =
    let x = c.args in
    let i = c.number_of-number in
    let a = c.kept_number in
    let q = c.is_change.ensures ∙ ap₂ (λ (u v : ℕ). not (eqb u v && leb x.bytes 3)) i.ensures.0
    (sym (number_selector a.result a.ensures.few)) in
    λ s f b. entry_changes (policy_of x.policy.now) x.base x.next s x.first (selector_of a.result) x.bytes
    c.is_change.result f b (a.ensures.kept x.first i.ensures.0) q

pub returns-in-None : goal.returns-in-None
returns-in-None c =
    let x = c.args in
    λ s f b. no_entry_changes (policy_of x.policy.now) x.base x.next s x.bytes
    (c.requires ∙ c.in-None.is) b
