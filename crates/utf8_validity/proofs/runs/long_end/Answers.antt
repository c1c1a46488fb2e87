use native.Mathlib.Omega.{arith}
use Rattle.utf8_validity.proofs.WidthRuns.{long_more, none_passed}
use Rattle.utf8_validity.proofs.runs.long_end.Goals as goal

pub loop-at-init : goal.loop-at-init
loop-at-init c = let x = c.args in none_passed x.s.now x.from c.requires

pub overflow_sub-s : goal.overflow_sub-s
overflow_sub-s c = c.loop-at.invariant.inside

pub returns-then-s-at-lt4 : goal.returns-then-s-at-lt4
returns-then-s-at-lt4 c = c.loop-at.invariant

pub returns-then-s-at-lt225 : goal.returns-then-s-at-lt225
returns-then-s-at-lt225 c = c.loop-at.invariant

pub returns-then-not-long_fits : goal.returns-then-not-long_fits
returns-then-not-long_fits c = c.loop-at.invariant

pub returns-then-not-are_tails : goal.returns-then-not-are_tails
returns-then-not-are_tails c = c.loop-at.invariant

pub loop-at-preserved : goal.loop-at-preserved
loop-at-preserved c =
    let m = c.bytes_after_long-more in
    let f = c.long_fits.ensures c.if-not-long_fits.false in
    let t = c.are_tails.ensures c.if-not-are_tails.false in
    let p = c.loop-at.invariant in
    long_more p (omega arith) m.result m.ensures.0 (omega arith) f.0 f.1 f.2
    (record { low = t.0; high = t.1 }) (record { low = t.2; high = t.3 }) (record { low = t.4; high = t.5 })
