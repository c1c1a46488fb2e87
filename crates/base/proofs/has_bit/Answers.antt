-- `base::has_bit` meets its contract: the code computes the bit as the definition does.
use borrow.Author.Rules.{rules}
use Rattle.base.specs.Bits.{one}
use Rattle.base.proofs.has_bit.Goals as goal

pub returns : goal.returns
unfolding one
returns c = search rules
