-- `feed_calls::change` meets its contract: a law for each answer.
use mathlib.Core.Path.{sym, ◌∙◌}
use Rattle.feed.proofs.Kept.{policy_length_lem}
use Rattle.policy_change.specs.Calls.{change}
use Rattle.feeding.proofs.Ending.{ends-called}
use Rattle.feeding.proofs.FirstPart.{no_feed}
use Rattle.feeding.proofs.LaterPieces.{changing-length, state-read}
use Rattle.feed_calls.proofs.Parts.{change-2, change-9, change-done}
use Rattle.feed_calls.proofs.change.Goals as goal

pub returns-then-not-is_changing : goal.returns-then-not-is_changing
returns-then-not-is_changing c =
    let x = c.args in ends-called (no_feed x.feed.now (change x.policy.now) (sym
    c.is_changing.ensures ∙ c.if-not-is_changing.true))

pub returns-then-state : goal.returns-then-state
returns-then-state c =
    let x = c.args in
    let f = x.feed.now in
    let p = x.policy.now in
    let i = sym c.is_changing.ensures ∙ c.if-not-is_changing.false in
    let r = state-read f i c.read_state-state.ensures.words in
    ends-called (change-9 f p i r c.if-state.true)

pub returns-then-not-is_policy : goal.returns-then-not-is_policy
returns-then-not-is_policy c =
    let x = c.args in
    let f = x.feed.now in
    let p = x.policy.now in
    let i = sym c.is_changing.ensures ∙ c.if-not-is_changing.false in
    let r = state-read f i c.read_state-state.ensures.words in
    ends-called (change-2 f p i r c.if-state.false (sym c.is_policy.ensures ∙ c.if-not-is_policy.true) c.policy_refusal.ensures)

pub put_policy-requires : goal.put_policy-requires
put_policy-requires c =
    let x = c.args in
    let f = x.feed.now in
    let p = x.policy.now in
    let i = sym c.is_changing.ensures ∙ c.if-not-is_changing.false in (
      changing-length f i,
      policy_length_lem p (sym c.is_policy.ensures ∙ c.if-not-is_policy.false),
    )

pub returns : goal.returns
returns c =
    let x = c.args in
    let f = x.feed.now in
    let p = x.policy.now in
    let i = sym c.is_changing.ensures ∙ c.if-not-is_changing.false in
    let r = state-read f i c.read_state-state.ensures.words in
    ends-called (change-done f p i r c.if-state.false (sym
    c.is_policy.ensures ∙ c.if-not-is_policy.false) c.put_policy.ensures)
