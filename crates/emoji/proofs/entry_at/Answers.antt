-- `emoji::entry_at` meets its contract: what std reads at an index is the entry there (`entry_in_lem`, `entry_out`).
use Rattle.std.proofs.Common.{arith}
use Rattle.std.proofs.lemmas.Grind.{common_steps}
use Rattle.emoji.proofs.Ascent.{entry_in_lem, entry_out}
use Rattle.emoji.proofs.entry_at.Goals as goal

pub returns : goal.returns
returns c = grind (
  arith,
  common_steps,
  entry_in_lem c.args.index c.args.table.now,
  entry_out c.args.index c.args.table.now,
  c.copied.ensures,
  c.get.ensures,
)
