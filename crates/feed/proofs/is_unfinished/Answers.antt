-- `feed::is_unfinished` meets its contract: by the number of bytes.
use mathlib.Core.Path.{sym, ◌∙◌}
use native.Mathlib.Omega.{arith}
use Rattle.feed.proofs.Testing.{
  begun-by_third,
  not_second,
  not_third_low,
  unfinished-many,
  unfinished-none,
  unfinished-one,
  unfinished-three,
  unfinished-two,
}
use Rattle.feed.proofs.is_unfinished.Goals as goal

pub returns-then-n-eq0 : goal.returns-then-n-eq0
returns-then-n-eq0 c = let x = c.args in unfinished-none x.n x.rest c.if-n-eq0.true

pub returns-then-n-eq1 : goal.returns-then-n-eq1
returns-then-n-eq1 c =
    let x = c.args in unfinished-one x.n x.rest c.if-n-eq1.true
    c.low_byte-a.ensures c.in_range.ensures

pub returns-then-n-eq2 : goal.returns-then-n-eq2
returns-then-n-eq2 c =
    let x = c.args in unfinished-two x.n x.rest c.if-n-eq2.true
    c.low_byte-a.ensures c.low_byte-b.ensures c.second_fits.ensures

pub returns-then-n-gt3 : goal.returns-then-n-gt3
returns-then-n-gt3 c = let x = c.args in unfinished-many x.n x.rest c.if-n-gt3.true

pub returns-then-not-second_fits : goal.returns-then-not-second_fits
returns-then-not-second_fits c =
    let x = c.args in
    unfinished-three x.n x.rest (omega arith) c.low_byte-a.ensures
    c.low_byte-b.ensures c.low_byte-third.ensures
    (not_second _ _ _ (sym c.second_fits-2.ensures ∙ c.if-not-second_fits.true))

pub returns-then-a-lt240 : goal.returns-then-a-lt240
returns-then-a-lt240 c =
    let x = c.args in
    unfinished-three x.n x.rest (omega arith) c.low_byte-a.ensures
    c.low_byte-b.ensures c.low_byte-third.ensures
    (not_third_low _ _ _ (sym c.second_fits-2.ensures ∙ c.if-not-second_fits.false) c.if-a-lt240.true)

pub returns : goal.returns
returns c =
    let x = c.args in
    unfinished-three x.n x.rest (omega arith)
    c.low_byte-a.ensures
    c.low_byte-b.ensures c.low_byte-third.ensures
    (begun-by_third _ _ _ (sym c.second_fits-2.ensures ∙ c.if-not-second_fits.false)
    c.if-a-lt240.false c.in_range-2.ensures)
