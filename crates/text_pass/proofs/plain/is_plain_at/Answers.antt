-- `text_pass::plain::is_plain_at` meets its contract: what the first bytes leave open is no base, link or selector (`plain_lead`).
use mathlib.Core.List.{List}
use mathlib.Core.Path.{◌≡◌, ap, sym, ◌∙◌}
use Prim.Native.Nat.{ℕ}
use native.Mathlib.Omega.{arith}
use borrow.Author.Tests.{eq-eqb, not-true}
use mathlib.Core.Bool.{true≢false}
use lib.ListN.{drop, get_or}
use lib.Seq.{get_or-drop}
use Rattle.utf8.proofs.Places.{step}
use Rattle.text_pass.proofs.PlainText.{plain_lead}
use Rattle.text_pass.proofs.plain.is_plain_at.Goals as goal

-- The byte at an offset is the first of the bytes from there on.
byte_is : (text : List ℕ) (at : ℕ) → get_or text at 0 ≡ get_or (drop at text) 0 0
byte_is text at = ap (λ (n : ℕ). get_or text n 0) (omega arith) ∙ sym (get_or-drop at text 0 0)

pub returns-then-second : goal.returns-then-second
returns-then-second c =
    let x = c.args in
    λ f v w r. plain_lead (step x.text.now x.at v w r) _ (byte_is x.text.now x.at) (omega arith) (omega arith) (λ y. omega (arith, y))
    (λ _. (
      λ y. c.if-second.true (c.byte_at-second.ensures ∙ y),
      λ y. true≢false
          (sym (eq-eqb _ 0x8A (c.byte_at-second.ensures ∙ y)) ∙ not-true _ f),
    ))

pub returns-in_default-first : goal.returns-in_default-first
returns-in_default-first c =
    let x = c.args in
    λ f v w r. plain_lead (step x.text.now x.at v w r) _ (byte_is x.text.now x.at) (omega arith) (omega arith) (λ y. omega (arith, y))
    (λ y. absurd (omega (arith, y)))
