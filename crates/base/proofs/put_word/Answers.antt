-- `base::put_word` meets its contract: the list of the buffer with the eight bytes in their place (`sets-eq`).
use Rattle.std.proofs.Common.{arith}
use Rattle.std.proofs.lemmas.Grind.{common_steps}
use lib.Seq.{sets-eq}
use Rattle.base.specs.Words.{word_bytes}
use Rattle.base.proofs.Words.{le_word, length_word_bytes}
use Rattle.base.proofs.put_word.Goals as goal

pub returns : goal.returns
returns c = let x = c.args in grind (
  arith,
  common_steps,
  sets-eq (word_bytes x.x) x.out.now x.at (omega (arith, c.requires, length_word_bytes x.x)),
  length_word_bytes x.x,
  le_word x.x,
  c.to_le_bytes.ensures,
  c.copy_from_slice.ensures,
)
