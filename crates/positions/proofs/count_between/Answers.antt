-- `positions::count_between` meets its contract: an offset after the text's end counts as its end.
use mathlib.Core.Path.{ap, sym, ◌∙◌}
use native.Mathlib.Omega.{arith}
use Rattle.positions.specs.Positions.{count_between, counted, stretch}
use Rattle.positions.proofs.Counting.{none-counted, stretch-empty, stretch_within}
use Rattle.positions.proofs.count_between.Goals as goal

pub returns-in-None : goal.returns-in-None
unfolding count_between
returns-in-None c =
    let x = c.args in
    let cut = ap (stretch x.text.now x.from) c.min.ensures ∙ stretch_within x.text.now x.from x.to in
    sym (ap counted (sym cut ∙ stretch-empty x.text.now x.from c.min.result (omega (arith, c.in-None.ensures.lookup, c.min.ensures)))
    ∙ none-counted)
