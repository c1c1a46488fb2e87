-- `emoji::is_tag` meets its contract: the definition is a range too.
use Rattle.emoji.specs.Unicode.{is_tag}
use Rattle.emoji.proofs.is_tag.Goals as goal

pub returns : goal.returns
unfolding is_tag
returns c = c.is_within.ensures
