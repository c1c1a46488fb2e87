-- `feed::state_words` meets its contract: fifteen numbers.
use Rattle.feed.proofs.Writing.{words_made}
use Rattle.feed.proofs.state_words.Goals as goal

pub returns : goal.returns
returns c = words_made c.args.state c.ended_word.ensures c.selector_word.ensures
