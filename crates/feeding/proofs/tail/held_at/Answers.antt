-- `feeding::tail::held_at` meets its contract.
use Rattle.emoji.specs.declared.presentation.Presentation.{Presentation}
use Rattle.std.specs.Prelude.{Option}
use mathlib.Core.Path.{ap}
use Prim.Native.Nat.{◌-◌, ◌/◌}
use Rattle.feeding.proofs.tail.held_at.Goals as goal

pub returns : goal.returns
returns c =
    let x = c.args in
    ap (λ (f : Option Presentation). record { start = x.start; held = record { base = x.ch; first = f; count = (x.to - x.at) / 3 } })
    c.selector_at-first.ensures
