-- Differences from sums that stop at the largest number.
use mathlib.Core.Path.{ap, ◌∙◌}
use Prim.Native.Nat.{ℕ, ◌-◌}
use Rattle.base.specs.Words.{word_at}
use Rattle.storing.proofs.Sums.{common_is}
use native.Mathlib.Omega.{arith}
use Rattle.storing.proofs.common_left.Goals as goal

pub returns : goal.returns
returns c =
    let bs = c.args.store.now in
    let w = c.word in
    let r = c.reserved in
    let m = c.saturating_sub.ensures ∙ ap (λ (v : ℕ). v - r.result) w.ensures.0 in
    common_is (word_at 0 bs) _ _ _ _ _ _ (omega (arith, w.ensures.0, w.ensures.1)) r.ensures m c.overflowed.ensures
    c.saturating_sub-2.ensures
