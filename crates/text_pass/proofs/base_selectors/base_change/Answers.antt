-- `text_pass::base_selectors::base_change` meets its contract: `base_read` (`Bases`) puts together what was read.
use Rattle.emoji.specs.declared.presentation.Presentation.{Presentation}
use Rattle.std.specs.Prelude.{Option}
use mathlib.Core.Path.{ap₂, sym, ◌∙◌, subst}
use mathlib.Core.Bool.{◌&&◌, not}
use Prim.Native.Nat.{ℕ, ◌-◌}
use lib.Dec.{eqb, leb}
use lib.ListN.{drop}
use Rattle.utf8.specs.Rfc3629.{chars}
use Rattle.policy.specs.PolicyBytes.{policy_of}
use Rattle.analysis.proofs.CellsAt.{first-leads, selectors_end}
use Rattle.text_pass.specs.Changes.{BaseChange, selector_of}
use Rattle.text_pass.proofs.Bases.{base_read}
use Rattle.text_pass.proofs.NumberedSelectors.{number_selector}
use Rattle.text_pass.proofs.base_selectors.base_change.Goals as goal

pub returns : goal.returns
returns c =
    let x = c.args in
    let p = policy_of x.policy.now in
    let t = x.text.now in
    let f = c.selector_at-selector in
    let i = c.number_of-first in
    let e = c.selectors_after-end in
    let k = c.rule_class_at-next in
    let a = c.kept_number-kept in
    let m = c.is_change in
    let q = m.ensures ∙ ap₂ (λ (u v : ℕ). not (eqb u v && leb (e.result - x.at) 3)) i.ensures.0
    (sym (number_selector a.result a.ensures.few)) in
    subst (λ (s : Option Presentation). BaseChange p t x.base x.at
    (record { start = x.at; selector = s; end = e.result; present = m.result })) (sym c.selector_of.ensures)
    (base_read p t x.base x.at f.result e.result k.result (selector_of a.result) m.result
    (f.ensures ∙ first-leads (chars (drop x.at t))) (e.ensures ∙ selectors_end t x.at) k.ensures
    (a.ensures.kept f.result i.ensures.0) q)
