-- `feeding::ascii::put_words` meets its contract: both words fit.
use Rattle.feeding.proofs.Copying.{both_put}
use Rattle.feeding.proofs.ascii.put_words.Goals as goal

pub returns : goal.returns
returns c =
    both_put c.args.feed.now c.args.base c.args.len c.requires
    c.write_word.ensures.1 c.write_word-2.ensures.1
