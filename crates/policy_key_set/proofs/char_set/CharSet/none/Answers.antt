-- `CharSet::none` meets its contract: a word that is 0 has no one.
use Rattle.policy_key_set.proofs.Members.{none_held}
use Rattle.policy_key_set.specs.Sets.{entry_count}
use Rattle.policy_key_set.proofs.char_set.CharSet.none.Goals as goal

pub returns : goal.returns
returns c = none_held entry_count 6
