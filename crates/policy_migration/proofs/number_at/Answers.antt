-- `policy_migration::number_at` meets its contract.
use mathlib.Core.Path.{◌∙◌}
use Rattle.policy_migration.proofs.Coding.{number_word}
use Rattle.policy_migration.proofs.number_at.Goals as goal

pub returns : goal.returns
returns c = let x = c.args in c.read_word.ensures ∙ number_word x.entries.now x.j c.requires
