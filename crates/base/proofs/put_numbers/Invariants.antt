-- `base::put_numbers` meets its contract. The loop's invariant: the bytes of the numbers so far are written.
use lib.ListN.{drop}
use Rattle.base.proofs.Writer.{Writing}
use Rattle.base.specs.Words.{bytes_of}
use Rattle.base.proofs.put_numbers.Given as goal

abbrev pub invariant-loop-number : goal.invariant-loop-number
invariant-loop-number l = Writing (bytes_of l.numbers) l.fn.start l.fn.out (bytes_of (drop l.number-index l.numbers)) l.out l.at
