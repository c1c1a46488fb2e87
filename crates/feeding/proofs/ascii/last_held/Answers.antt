-- `feeding::ascii::last_held` meets its contract.
use native.Mathlib.Omega.{arith}
use Rattle.feeding.proofs.ascii.last_held.Goals as goal

pub held_entry-requires : goal.held_entry-requires
held_entry-requires c = c.requires.1 _ (omega (arith, c.requires.0))
