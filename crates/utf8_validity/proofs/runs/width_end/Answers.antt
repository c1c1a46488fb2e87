-- `utf8_validity::runs::width_end` meets its contract: by a run of each width (WidthRuns).
use mathlib.Core.Path.{refl}
use native.Mathlib.Omega.{arith}
use Rattle.utf8_validity.proofs.WidthRuns.{ascii_more, none_passed}
use Rattle.utf8_validity.proofs.runs.width_end.Goals as goal

pub returns-then-s-from : goal.returns-then-s-from
returns-then-s-from c = let x = c.args in record { inside = none_passed x.s.now x.from; past = λ h. refl }

pub returns-then-width-eq1 : goal.returns-then-width-eq1
returns-then-width-eq1 c = record { inside = ascii_more c.ascii_end.ensures; past = λ h. absurd (omega (arith, h, c.if-s-from.false)) }

pub returns-then-s-from-lt128 : goal.returns-then-s-from-lt128
returns-then-s-from-lt128 c = let x = c.args in record { inside = none_passed x.s.now x.from; past = λ h. refl }

pub returns-then-width-eq2 : goal.returns-then-width-eq2
returns-then-width-eq2 c = record { inside = λ h. c.short_end.ensures; past = λ h. absurd (omega (arith, h, c.if-s-from.false)) }

pub returns-then-width-eq3 : goal.returns-then-width-eq3
returns-then-width-eq3 c = record { inside = λ h. c.three_end.ensures; past = λ h. absurd (omega (arith, h, c.if-s-from.false)) }

pub returns : goal.returns
returns c = record { inside = λ h. c.long_end.ensures; past = λ h. absurd (omega (arith, h, c.if-s-from.false)) }
