use mathlib.Core.Path.{◌≡◌, refl, ap, sym, ◌∙◌}
use native.Mathlib.Omega.{arith}
use Prim.Native.Nat.{ℕ}
use Rattle.feed.specs.Bytes.{small_to}
use Rattle.feed.proofs.Reading.{small_not, small-on}
use Rattle.feed.proofs.is_small.Goals as goal

pub loop-k-init : goal.loop-k-init
loop-k-init c = (omega arith, refl)

pub returns-then-word-gt-TEXT_LIMIT : goal.returns-then-word-gt-TEXT_LIMIT
returns-then-word-gt-TEXT_LIMIT c =
    let l = c.loop-k in
    let x = c.args in
    sym (l.invariant.1 ∙ small_not x.feed.now l.k c.loop-k-test.true (omega (arith, c.word.ensures)))

pub loop-k-preserved : goal.loop-k-preserved
loop-k-preserved c =
    let l = c.loop-k in
    let x = c.args in (
      omega arith,
      l.invariant.1 ∙ small-on x.feed.now l.k c.loop-k-test.true
          (omega (arith, c.word.ensures)),
    )

pub returns : goal.returns
unfolding small_to
returns c =
    let l = c.loop-k in
    let x = c.args in
    let z : l.k ≡ 0 = omega arith in
    sym (l.invariant.1 ∙ ap (λ (j : ℕ). small_to j x.feed.now) z)
