-- `utf8::bad_width` meets its contract: the width by three tests (SecondBytes).
use mathlib.Core.Path.{sym, ap, ◌∙◌}
use native.Mathlib.Omega.{arith}
use lib.ListN.{drop, drop_of_length-le, length-drop}
use Rattle.utf8.specs.Rfc3629.{subpart_of}
use Rattle.utf8.proofs.SecondBytes.{width_1, width_2_low, width_2_tail, width_3, width_at}
use Rattle.utf8.proofs.bad_width.Goals as goal

pub returns-then-s-at : goal.returns-then-s-at
unfolding subpart_of
returns-then-s-at c = let x = c.args in sym (ap subpart_of (drop_of_length-le x.s.now c.if-s-at.true))

pub returns-then-not-second_fits : goal.returns-then-not-second_fits
returns-then-not-second_fits c =
    let x = c.args in
    width_at (drop x.at x.s.now) (omega (arith, length-drop x.at x.s.now)) c.byte_at-a.ensures
    c.byte_at-b.ensures c.byte_at-c.ensures
    (width_1 _ _ _ (sym c.second_fits.ensures ∙ c.if-not-second_fits.true))

pub returns-then-a-lt240 : goal.returns-then-a-lt240
returns-then-a-lt240 c =
    let x = c.args in
    width_at (drop x.at x.s.now) (omega (arith, length-drop x.at x.s.now)) c.byte_at-a.ensures
    c.byte_at-b.ensures c.byte_at-c.ensures
    (width_2_low _ _ _ (sym c.second_fits.ensures ∙ c.if-not-second_fits.false) c.if-a-lt240.true)

pub returns-then-not-in_range : goal.returns-then-not-in_range
returns-then-not-in_range c =
    let x = c.args in
    width_at (drop x.at x.s.now) (omega (arith, length-drop x.at x.s.now)) c.byte_at-a.ensures
    c.byte_at-b.ensures c.byte_at-c.ensures
    (width_2_tail _ _ _ (sym c.second_fits.ensures ∙ c.if-not-second_fits.false)
    (sym c.in_range.ensures ∙ c.if-not-in_range.true))

pub returns : goal.returns
returns c =
    let x = c.args in
    width_at (drop x.at x.s.now) (omega (arith, length-drop x.at x.s.now)) c.byte_at-a.ensures
    c.byte_at-b.ensures c.byte_at-c.ensures
    (width_3 _ _ _ (sym c.second_fits.ensures ∙ c.if-not-second_fits.false) c.if-a-lt240.false
    (sym c.in_range.ensures ∙ c.if-not-in_range.false))
