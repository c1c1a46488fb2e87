-- `membership_flips::pass::is_flagged` meets its contract.
use mathlib.Core.Path.{ap}
use mathlib.Core.Bool.{not}
use Prim.Native.Nat.{ℕ}
use lib.Dec.{eqb}
use lib.ListN.{get_or}
use Rattle.membership_flips.specs.Pass.{flagged}
use Rattle.membership_flips.proofs.pass.is_flagged.Goals as goal

pub returns : goal.returns
unfolding flagged
returns c = ap (λ (n : ℕ). not (eqb (get_or c.args.flags.now n 0) 0)) c.flag_index-at.ensures.0
