-- `room::default_room` meets its contract: twice a length and half of it are five halves of it.
use mathlib.Core.Path.{ap, ◌∙◌}
use Prim.Native.Nat.{ℕ, ◌+◌, ◌/◌}
use native.Mathlib.Omega.{arith}
use Rattle.base.specs.Sums.{capped}
use Rattle.analysis.proofs.Measuring.{capped-on}
use Rattle.room.specs.Room.{default_room}
use Rattle.room.proofs.default_room.Goals as goal

pub returns : goal.returns
unfolding default_room
returns c =
    let n = c.args.len in
    c.add_count.ensures ∙ ap (λ (k : ℕ). capped (k + n / 2)) c.add_count-twice.ensures ∙ capped-on (n + n) (n / 2)
    ∙ ap capped (omega arith)
