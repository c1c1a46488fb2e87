-- `ascii_runs::zero_bytes` meets its contract: a word of 64 bits has at most 64 trailing zeros.
use mathlib.Core.Path.{refl}
use native.Mathlib.Omega.{arith}
use lib.Count.{trailing_le}
use Rattle.ascii_runs.proofs.zero_bytes.Goals as goal

pub overflow_cast-result : goal.overflow_cast-result
overflow_cast-result c = omega (arith, trailing_le 64 c.args.w)

pub returns : goal.returns
returns c = (refl, omega (arith, trailing_le 64 c.args.w))
