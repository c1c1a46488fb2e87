-- `feed_calls::totals` meets its contract.
use mathlib.Core.Path.{sym, ◌∙◌}
use native.Mathlib.Omega.{arith}
use Rattle.feeding.proofs.LaterPieces.{changing-length}
use Rattle.feed_calls.proofs.Parts.{same-totals, totals-none, totals-part}
use Rattle.feed_calls.proofs.totals.Goals as goal

pub returns-then-not-is_changing : goal.returns-then-not-is_changing
returns-then-not-is_changing c =
    same-totals (totals-none c.args.feed.now (sym
    c.is_changing.ensures ∙ c.if-not-is_changing.true)) c.totals.ensures

pub slice_bounds-totals-end-2 : goal.slice_bounds-totals-end-2
slice_bounds-totals-end-2 c =
    omega (
      arith,
      changing-length c.args.feed.now (sym
          c.is_changing.ensures ∙ c.if-not-is_changing.false),
    )

pub returns : goal.returns
returns c =
    same-totals (totals-part c.args.feed.now (sym
    c.is_changing.ensures ∙ c.if-not-is_changing.false)) c.totals-2.ensures
