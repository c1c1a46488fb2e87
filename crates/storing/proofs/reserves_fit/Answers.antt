use Rattle.std.proofs.Common.{arith, ℕ, ◌<◌, ◌≤◌, ◌≡◌, ◌-◌}
use Rattle.base.specs.Words.{word_at}
use Rattle.storing.proofs.Beginning.{sum_fits, sum_goes, sum-passes, sum_starts}
use Rattle.storing.proofs.reserves_fit.Goals as goal

pub loop-c-init : goal.loop-c-init
loop-c-init c = let x = c.args in sum_starts (λ (i : ℕ). word_at i x.reserves.now) x.capacity

pub returns-in-None : goal.returns-in-None
returns-in-None c =
    let l = c.loop-c in
    let x = c.args in
    let h : l.rest < c.word.result = grind arith in
    sum-passes (λ (i : ℕ). word_at i x.reserves.now) x.capacity l.c l.rest _ l.invariant c.word.ensures.0 (omega arith) h

pub loop-c-preserved : goal.loop-c-preserved
loop-c-preserved c =
    let l = c.loop-c in
    let x = c.args in
    let h : c.word.result ≤ l.rest = grind arith in
    let d : c.in-Some.left ≡ l.rest - c.word.result = grind arith in
    rw d (sum_goes (λ (i : ℕ). word_at i x.reserves.now) x.capacity l.c l.rest _ l.invariant c.word.ensures.0 h)

pub returns : goal.returns
returns c =
    let l = c.loop-c in
    let x = c.args in
    sum_fits (λ (i : ℕ). word_at i x.reserves.now) x.capacity l.c l.rest (omega arith) l.invariant
