-- `feed::write_state` meets its contract: it writes the words as numbers.
use Rattle.feed.proofs.Writing.{state-writes}
use Rattle.feed.proofs.write_state.Goals as goal

pub returns : goal.returns
returns c =
    let x = c.args in
    state-writes x.state x.feed.now _ _ c.state_words-words.ensures
    c.write_numbers.ensures
