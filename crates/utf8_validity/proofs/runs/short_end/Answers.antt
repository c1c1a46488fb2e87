use native.Mathlib.Omega.{arith}
use Rattle.utf8_validity.proofs.WidthRuns.{none_passed, short-more}
use Rattle.utf8_validity.proofs.runs.short_end.Goals as goal

pub loop-ascii-init : goal.loop-ascii-init
loop-ascii-init c = let x = c.args in (none_passed x.s.now x.from c.requires, omega arith)

pub overflow_sub-s : goal.overflow_sub-s
overflow_sub-s c = c.loop-ascii.invariant.0.inside

pub returns-then-s-at-lt2 : goal.returns-then-s-at-lt2
returns-then-s-at-lt2 c = c.loop-ascii.invariant.0

pub returns-then-not-short_fits : goal.returns-then-not-short_fits
returns-then-not-short_fits c = c.loop-ascii.invariant.0

pub loop-ascii-preserved : goal.loop-ascii-preserved
loop-ascii-preserved c =
    let m = c.bytes_after-more in
    let f = c.short_fits.ensures c.if-not-short_fits.false in
    let p = c.loop-ascii.invariant.0 in
    (short-more p (omega arith) m.result m.ensures f, omega (arith, c.masked-ascii.ensures.0))

pub returns : goal.returns
returns c = c.loop-ascii.invariant.0
