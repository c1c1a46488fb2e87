-- `formatting::surely_fits` meets its contract: by the factor four, or by five halves.
use mathlib.Core.Path.{sym, ◌∙◌}
use native.Mathlib.Omega.{arith}
use lib.ListN.{length}
use Rattle.base.proofs.Sums.{capped-held}
use Rattle.policy.specs.PolicyBytes.{policy_of}
use Rattle.room.specs.Room.{default_room}
use Rattle.room.proofs.Bound.{format_bound}
use Rattle.formatting.proofs.Surveying.{four_times_at}
use Rattle.formatting.proofs.surely_fits.Goals as goal

pub returns-then-text-room : goal.returns-then-text-room
returns-then-text-room c =
    let x = c.args in
    λ _. omega (arith, four_times_at (policy_of x.policy.now) x.text.now 0, c.if-text-room.true)

pub returns-then-default_room-room : goal.returns-then-default_room-room
unfolding default_room
returns-then-default_room-room c =
    let t = c.args.text.now in
    let d = c.default_room.ensures in
    λ e.
    let b = format_bound c.args.policy.now (sym c.ascii_keys_bare.ensures ∙ e) t in
    omega (arith, b, d, capped-held (default_room (length t)) (omega (arith, c.requires)), c.if-default_room-room.true)
