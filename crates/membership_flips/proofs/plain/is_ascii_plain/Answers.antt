-- `membership_flips::plain::is_ascii_plain` meets its contract: every ASCII character but #, * and the digits has the class other.
use mathlib.Core.Bool.{true≢false}
use mathlib.Core.Path.{sym, ◌∙◌}
use native.Mathlib.Omega.{arith}
use borrow.Author.Tests.{eq-eqb, not-true}
use Rattle.text_pass.proofs.PlainText.{ascii_other}
use Rattle.membership_flips.proofs.plain.is_ascii_plain.Goals as goal

pub returns-then-byte-gt127 : goal.returns-then-byte-gt127
returns-then-byte-gt127 c = λ e. absurd (true≢false (sym e))

pub returns-then-byte-gt22 : goal.returns-then-byte-gt22
returns-then-byte-gt22 c =
    λ _. (
      omega arith,
      ascii_other _ (omega arith) (λ e. omega (arith, c.if-byte-gt22.true)) (λ e. omega (arith, c.if-byte-gt22.true))
          (λ d e. omega (arith, c.if-byte-gt22.true)),
    )

pub returns-then-byte-ge48 : goal.returns-then-byte-ge48
returns-then-byte-ge48 c = λ e. absurd (true≢false (sym e))

pub returns-then-byte-eq35 : goal.returns-then-byte-eq35
returns-then-byte-eq35 c = λ e. absurd (true≢false (sym e))

pub returns : goal.returns
returns c =
    λ e. (
      omega arith,
      ascii_other _ (omega arith) c.if-byte-eq35.false (λ x. true≢false (sym (eq-eqb _ 0x2A x) ∙ not-true _ e))
          (λ d f. omega (arith, c.if-byte-ge48.false)),
    )
