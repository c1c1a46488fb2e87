-- `base::read_word` meets its contract: std's number of the first eight bytes is theirs (`le_number`).
use Rattle.std.proofs.Common.{arith}
use Rattle.std.proofs.lemmas.Grind.{common_steps}
use Rattle.base.specs.Words.{number}
use Rattle.base.proofs.Words.{le_number}
use Rattle.base.proofs.read_word.Goals as goal

pub returns-in_default : goal.returns-in_default
unfolding number
returns-in_default c = grind (arith, common_steps, c.in_default.ensures)

pub returns-in-Some-first_chunk : goal.returns-in-Some-first_chunk
returns-in-Some-first_chunk c = grind (
  arith,
  common_steps,
  le_number c.in-Some-first_chunk.word.now,
  c.from_le_bytes.ensures,
  c.in-Some.ensures,
  c.in-Some-first_chunk.ensures,
)
