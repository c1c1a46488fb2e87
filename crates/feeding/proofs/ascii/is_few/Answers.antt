-- `feeding::ascii::is_few` meets its contract.
use mathlib.Core.Path.{ap}
use Prim.Native.Nat.{ℕ}
use lib.Dec.{leb}
use Rattle.base.specs.Refusals.{text_limit}
use Rattle.feeding.proofs.ascii.is_few.Goals as goal

pub returns : goal.returns
returns c = ap (λ (x : ℕ). leb x text_limit) c.read_word.ensures
