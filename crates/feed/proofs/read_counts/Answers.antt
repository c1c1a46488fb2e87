-- `feed::read_counts` meets its contract: it reads eight words.
use Rattle.analysis.proofs.Counts.{counts_path}
use Rattle.feed.specs.Bytes.{counts_of}
use Rattle.feed.proofs.read_counts.Goals as goal

pub returns : goal.returns
unfolding counts_of
returns c =
    counts_path _ _ c.word.ensures c.word-2.ensures c.word-3.ensures
    c.word-4.ensures
    c.word-5.ensures c.word-6.ensures c.word-7.ensures c.word-8.ensures
