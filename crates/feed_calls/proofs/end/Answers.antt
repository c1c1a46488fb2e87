-- `feed_calls::end` meets its contract.
use mathlib.Core.Path.{sym, ◌∙◌}
use native.Mathlib.Omega.{arith}
use Rattle.policy_change.specs.Calls.{end}
use Rattle.feeding.proofs.Ending.{ends-called}
use Rattle.feeding.proofs.FirstPart.{glue_ends, no_feed}
use Rattle.feeding.proofs.LaterPieces.{changing-length}
use Rattle.feed_calls.proofs.Parts.{end-glued}
use Rattle.feed_calls.proofs.end.Goals as goal

pub returns-then-not-is_changing : goal.returns-then-not-is_changing
returns-then-not-is_changing c =
    let x = c.args in ends-called (no_feed x.feed.now (end x.out.now) (sym
    c.is_changing.ensures ∙ c.if-not-is_changing.true))

pub slice_bounds-end-end : goal.slice_bounds-end-end
slice_bounds-end-end c =
    omega (
      arith,
      changing-length c.args.feed.now (sym
          c.is_changing.ensures ∙ c.if-not-is_changing.false),
    )

pub returns : goal.returns
returns c =
    let x = c.args in
    glue_ends x.feed.now c.end.ensures (end-glued x.feed.now x.out.now (sym
    c.is_changing.ensures ∙ c.if-not-is_changing.false))
