-- `policy_migration::old_bit` meets its contract.
use Rattle.policy_migration.proofs.Coding.{word_bit}
use Rattle.policy_migration.proofs.old_bit.Goals as goal

pub returns : goal.returns
returns c =
    let x = c.args in
    word_bit x.policy.now x.at x.words x.j c.requires.0 _ _ c.read_word.ensures
    c.has_bit.ensures
