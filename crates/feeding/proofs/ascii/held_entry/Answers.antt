-- `feeding::ascii::held_entry` meets its contract.
use mathlib.Core.Path.{ap, sym, ◌∙◌}
use mathlib.Core.Bool.{Bool, cond}
use Rattle.feeding.proofs.ascii.held_entry.Goals as goal

pub returns-then-is_ascii_base : goal.returns-then-is_ascii_base
returns-then-is_ascii_base c =
    let x = c.args in
    sym (ap (λ (t : Bool). cond t x.ch 0) (sym c.is_ascii_base.ensures ∙ c.if-is_ascii_base.true))

pub returns : goal.returns
returns c =
    let x = c.args in
    sym (ap (λ (t : Bool). cond t x.ch 0) (sym c.is_ascii_base.ensures ∙ c.if-is_ascii_base.false))
