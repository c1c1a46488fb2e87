-- `feeding::totals` meets its contract: 64 bytes are written, or they do not fit.
use mathlib.Core.Path.{ap, ◌∙◌}
use Rattle.analysis.specs.declared.types.NonCanonicality.{NonCanonicality}
use Rattle.formatter.specs.List.{count_numbers}
use Rattle.feeding.proofs.Ending.{totals-short, totals-written}
use Rattle.feeding.proofs.totals.Goals as goal

pub returns-then-write_numbers : goal.returns-then-write_numbers
returns-then-write_numbers c =
    let x = c.args in
    totals-written _ (c.count_words-words.ensures ∙ ap (λ (n : NonCanonicality). count_numbers n)
    c.totals_now.ensures)
    x.out.now _ c.write_numbers.ensures c.if-write_numbers.true

pub returns : goal.returns
returns c =
    let x = c.args in
    totals-short _ (c.count_words-words.ensures ∙ ap (λ (n : NonCanonicality). count_numbers n)
    c.totals_now.ensures)
    x.out.now _ c.write_numbers.ensures c.if-write_numbers.false
