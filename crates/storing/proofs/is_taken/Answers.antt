-- The word of the place.
use mathlib.Core.Path.{ap}
use mathlib.Core.Bool.{not}
use Prim.Native.Nat.{ℕ}
use lib.Dec.{eqb}
use Rattle.storing.proofs.is_taken.Goals as goal

pub returns : goal.returns
returns c = ap (λ (w : ℕ). not (eqb w 0)) c.word.ensures.0
