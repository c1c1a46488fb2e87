-- `utf8_validity::runs::masked` meets its contract.
use native.Mathlib.Omega.{arith}
use Rattle.utf8_validity.proofs.WidthRuns.{times_1, times_le}
use Rattle.utf8_validity.proofs.runs.masked.Goals as goal

pub overflow_mul-result : goal.overflow_mul-result
overflow_mul-result c = let x = c.args in record { fits = omega (arith, times_le x.x x.bit c.requires.1) }

pub returns : goal.returns
returns c = let x = c.args in (times_le x.x x.bit c.requires.1, times_1 x.x)
