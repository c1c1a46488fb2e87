-- `scanner::state::start_state_by_row` meets its contract: the row of the first character.
use mathlib.Core.Path.{ap, ◌∙◌}
use Prim.Native.Nat.{ℕ, ◌/◌, ◌%◌, ◌^◌}
use Rattle.scanner.specs.Rows.{state_of}
use Rattle.scanner.proofs.Rows.{start-row}
use Rattle.scanner.proofs.state.start_state_by_row.Goals as goal

pub returns : goal.returns
returns c =
    c.state_of.ensures ∙ ap (λ (m : ℕ). state_of (0x00044321 / 2 ^ m % 8)) c.class_place.ensures.0
    ∙ start-row c.args.k
