use mathlib.Core.Path.{sym, ◌∙◌}
use native.Mathlib.Omega.{arith}
use Rattle.scanner.proofs.Peek.{seen, unseen}
use Rattle.analysis.proofs.CellsAt.{is_selector_lem, not_selector}
use Rattle.analysis.proofs.ChoicesAt.{choice-found, choice_none, choice-passed, choice-selector, undecided}
use borrow.Enum.Refused.{opened}
use Rattle.replacing.proofs.choice.next_choice.Goals as goal

pub loop-seen-smaller-in-Selector : goal.loop-seen-smaller-in-Selector
loop-seen-smaller-in-Selector c =
    let x = c.args in
    let l = c.loop-seen in
    let k = seen x.raw.now l.start
    (sym c.peek.ensures ∙ c.in-Some.is) in
    omega (arith, k.on, k.room)

pub loop-seen-preserved-in-Selector : goal.loop-seen-preserved-in-Selector
loop-seen-preserved-in-Selector c =
    let x = c.args in
    let l = c.loop-seen in
    let k = seen x.raw.now l.start
    (sym c.peek.ensures ∙ c.in-Some.is) in
    l.invariant ∙ choice-selector x.policy x.raw.now l.start k (is_selector_lem k c.in-Selector.is)

pub returns-in-Decided : goal.returns-in-Decided
returns-in-Decided c =
    let x = c.args in
    let l = c.loop-seen in
    let k = seen x.raw.now l.start
    (sym c.peek.ensures
    ∙ c.in-Some.is) in
    let e = not_selector k (opened c.in_default-class.in_default-class-own.keys2) in
    let o = c.cell_outcome-end in
    choice-found x.policy x.raw.now l.start k e o.result.outcome o.result.end o.ensures.outcome o.ensures.end
    c.in-Decided.default c.end_before_link.result c.in-Decided.is
    c.end_before_link.ensures
    ∙ sym l.invariant

pub loop-seen-smaller : goal.loop-seen-smaller
loop-seen-smaller c =
    let x = c.args in
    let l = c.loop-seen in
    let k = seen x.raw.now l.start
    (sym c.peek.ensures
    ∙ c.in-Some.is) in
    omega (arith, k.on, k.room, c.cell_outcome-end.ensures.end)

pub loop-seen-preserved : goal.loop-seen-preserved
loop-seen-preserved c =
    let x = c.args in
    let l = c.loop-seen in
    let k = seen x.raw.now l.start
    (sym c.peek.ensures
    ∙ c.in-Some.is) in
    let e = not_selector k (opened c.in_default-class.in_default-class-own.keys2) in
    let o = c.cell_outcome-end in
    l.invariant ∙ choice-passed x.policy x.raw.now l.start k e o.result.outcome o.result.end o.ensures.outcome o.ensures.end
    (undecided o.result.outcome.slot (opened c.in_default-slot.in_default-slot-own.keys2))

pub returns : goal.returns
returns c =
    let x = c.args in
    let l = c.loop-seen in
    choice_none x.policy x.raw.now l.start
    (unseen x.raw.now l.start (sym c.peek.ensures ∙ c.in_default.is)) ∙ sym l.invariant
