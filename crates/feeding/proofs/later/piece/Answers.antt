-- `feeding::later::piece` meets its contract: no feed, a feed whose policy has not changed, or one whose policy has.
use mathlib.Core.Path.{sym, ◌∙◌}
use Rattle.policy_change.specs.Calls.{piece}
use Rattle.policy_change.proofs.Testing.{test_1}
use Rattle.feeding.proofs.Ending.{ends-called}
use Rattle.feeding.proofs.FirstPart.{changed_by, glue_ends, no_feed, piece-glued, unchanged_by}
use Rattle.feeding.proofs.later.piece.Goals as goal

pub returns-then-feed-ne-CHANGING_BYTES : goal.returns-then-feed-ne-CHANGING_BYTES
returns-then-feed-ne-CHANGING_BYTES c =
    let x = c.args in
    let fd = x.feed.now in
    ends-called (no_feed fd (piece x.piece.now x.out.now) (sym (test_1 fd c.if-feed-ne-CHANGING_BYTES.true)))

pub returns-then-read_word-eq0 : goal.returns-then-read_word-eq0
returns-then-read_word-eq0 c =
    let x = c.args in
    let fd = x.feed.now in
    glue_ends fd c.piece.ensures (piece-glued fd c.if-feed-ne-CHANGING_BYTES.false
    (unchanged_by fd c.read_word.ensures
    c.if-read_word-eq0.true) x.piece.now x.out.now)

pub returns-then-not-is_changing : goal.returns-then-not-is_changing
returns-then-not-is_changing c =
    let x = c.args in
    let fd = x.feed.now in
    ends-called (no_feed fd (piece x.piece.now x.out.now) (sym c.is_changing.ensures ∙ c.if-not-is_changing.true))

pub piece_after_change-requires : goal.piece_after_change-requires
piece_after_change-requires c = (
  c.if-feed-ne-CHANGING_BYTES.false,
  sym c.is_changing.ensures ∙ c.if-not-is_changing.false,
  changed_by c.args.feed.now c.read_word.ensures
      c.if-read_word-eq0.false,
)

pub returns : goal.returns
returns c = c.piece_after_change.ensures
