-- `policy_key_set::tested` meets its contract, by the law `matching_words_hold`.
use Rattle.policy_key_set.specs.KeySets.{named_entry_matches}
use Rattle.policy_key_set.proofs.Entries.{matching_words_hold}
use Rattle.policy_key_set.proofs.tested.Goals as goal

pub returns : goal.returns
returns c = matching_words_hold (named_entry_matches c.args.id) c.args.bits c.requires
