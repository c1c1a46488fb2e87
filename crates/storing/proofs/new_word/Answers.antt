-- A word of a new store.
use mathlib.Core.Path.{◌∙◌}
use Rattle.storing.proofs.Beginning.{next_word}
use Rattle.storing.proofs.new_word.Goals as goal

pub returns : goal.returns
returns c =
    let x = c.args in
    c.word.ensures.0 ∙ next_word x.capacity x.reserves.now c.requires.0 x.k c.if-k-eq0.false
