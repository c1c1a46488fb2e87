-- `base::short_word` meets its contract: two numbers of four bytes make the number of eight (`number-eight`), and there are no more.
use mathlib.Core.Path.{ap}
use native.Mathlib.Omega.{arith}
use lib.Seq.{take_all}
use Rattle.base.specs.Words.{number}
use Rattle.base.proofs.Words.{number-eight}
use Rattle.base.proofs.short_word.Goals as goal

pub returns : goal.returns
returns c =
    let b = c.args.bytes.now in
    omega (arith, number-eight b, ap number (take_all 8 b (omega (arith, c.requires))), c.half.ensures, c.half-2.ensures)
