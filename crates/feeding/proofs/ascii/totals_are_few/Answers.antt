use mathlib.Core.Path.{sym, ◌∙◌}
use mathlib.Core.Bool.{true≢false}
use Prim.Native.Nat.{ℕ, ◌≤◌}
use native.Mathlib.Omega.{arith}
use borrow.Author.Tests.{leb-true}
use Rattle.base.specs.Words.{word_at}
use Rattle.base.specs.Refusals.{text_limit}
use Rattle.feeding.proofs.Copying.{and_next}
use Rattle.feeding.proofs.ascii.totals_are_few.Goals as goal

pub returns-then-feed-ne-FEED_BYTES : goal.returns-then-feed-ne-FEED_BYTES
returns-then-feed-ne-FEED_BYTES c = λ e. absurd (true≢false (sym e))

pub loop-k-init : goal.loop-k-init
loop-k-init c = (omega arith, omega arith, λ j h l. absurd (omega arith))

pub returns-then-not-is_few : goal.returns-then-not-is_few
returns-then-not-is_few c = λ e. absurd (true≢false (sym e))

pub loop-k-preserved : goal.loop-k-preserved
loop-k-preserved c =
    let l = c.loop-k in
    let x = c.args in (
      omega arith,
      omega arith,
      and_next (λ (n : ℕ). word_at n x.feed.now ≤ text_limit) l.invariant.2
          (leb-true _ _ (sym c.is_few.ensures ∙ c.if-not-is_few.false)),
    )

pub returns : goal.returns
returns c = λ e j h m. let l = c.loop-k in l.invariant.2 j h (omega arith)
