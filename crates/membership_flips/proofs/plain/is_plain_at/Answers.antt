-- `membership_flips::plain::is_plain_at` meets its contract: the first bytes determine the class (`plain_lead` of `PlainText`).
use Rattle.text_pass.proofs.PlainText.{plain_lead}
use Rattle.utf8.proofs.Places.{step}
use borrow.Author.Tests.{eq-eqb, not-true}
use lib.Seq.{get_or-drop}
use lib.ListN.{drop, get_or}
use native.Mathlib.Omega.{arith}
use Prim.Native.Nat.{ℕ}
use mathlib.Core.Bool.{true≢false}
use mathlib.Core.Path.{◌≡◌, ap, sym, ◌∙◌}
use Rattle.membership_flips.proofs.plain.is_plain_at.Goals as goal

pub returns-then-first-lt195 : goal.returns-then-first-lt195
returns-then-first-lt195 c = λ e v w r. absurd (true≢false (sym e))

pub returns-then-first-gt238 : goal.returns-then-first-gt238
returns-then-first-gt238 c = λ e v w r. absurd (true≢false (sym e))

pub returns-then-first : goal.returns-then-first
returns-then-first c = λ e v w r. absurd (true≢false (sym e))

pub returns-then-second : goal.returns-then-second
returns-then-second c = λ e v w r. absurd (true≢false (sym e))

pub returns-then-first-2 : goal.returns-then-first-2
returns-then-first-2 c =
    let x = c.args in
    let e : get_or x.text.now x.at 0 ≡ get_or (drop x.at x.text.now) 0 0 = ap (λ (n : ℕ). get_or x.text.now n 0) (omega arith)
    ∙ sym (get_or-drop x.at x.text.now 0 0) in
    λ f v w r. plain_lead (step x.text.now x.at v w r) (get_or x.text.now x.at 0) e
    (omega (arith, c.if-first-lt195.false)) (omega (arith, c.if-first-gt238.false))
    c.if-first.false
    (λ _. (
      λ y. c.if-second.false (c.byte_at-second.ensures ∙ y),
      λ y. true≢false (sym (eq-eqb _ 0x8A (c.byte_at-second.ensures ∙ y)) ∙ not-true _ f),
    ))

pub returns : goal.returns
returns c =
    let x = c.args in
    let e : get_or x.text.now x.at 0 ≡ get_or (drop x.at x.text.now) 0 0 = ap (λ (n : ℕ). get_or x.text.now n 0) (omega arith)
    ∙ sym (get_or-drop x.at x.text.now 0 0) in
    λ f v w r. plain_lead (step x.text.now x.at v w r) (get_or x.text.now x.at 0) e
    (omega (arith, c.if-first-lt195.false)) (omega (arith, c.if-first-gt238.false)) c.if-first.false
    (λ y. absurd (c.if-first-2.false y))
