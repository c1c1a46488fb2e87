-- `CharSet::all` meets its contract: the words pass the computed test.
use Rattle.policy_key_set.proofs.Entries.{all_words}
use Rattle.policy_key_set.proofs.char_set.CharSet.all.Goals as goal

pub returns : goal.returns
returns c = all_words
