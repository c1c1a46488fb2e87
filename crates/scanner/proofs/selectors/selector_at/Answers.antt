-- `scanner::selectors::selector_at` meets its contract: by the three bytes of a selector.
use mathlib.Core.Path.{sym, ◌∙◌}
use native.Mathlib.Omega.{arith}
use Rattle.emoji.specs.declared.presentation.Presentation.TheVariants.{Emoji, Text}
use Rattle.scanner.proofs.SelectorBytes.{no_last, no_selector_read, selector_bytes_lem, selector_here, selector_read}
use Rattle.scanner.proofs.selectors.selector_at.Goals as goal

pub returns-then-text-lt-SELECTOR_BYTES : goal.returns-then-text-lt-SELECTOR_BYTES
returns-then-text-lt-SELECTOR_BYTES c =
    let x = c.args in
    no_selector_read x.text.now x.at
    (λ q e. omega (arith, (selector_here x.text.now x.at q e).read.room, c.if-text-lt-SELECTOR_BYTES.true))

pub returns-then-text-at : goal.returns-then-text-at
returns-then-text-at c =
    let x = c.args in
    no_selector_read x.text.now x.at
    (λ q e. omega (arith, (selector_here x.text.now x.at q e).read.room, c.if-text-at.true))

pub returns-then-byte_at : goal.returns-then-byte_at
returns-then-byte_at c =
    let x = c.args in
    no_selector_read x.text.now x.at
    (λ q e. c.if-byte_at.true (c.byte_at.ensures ∙ (selector_bytes_lem x.text.now x.at q e).0))

pub returns-then-byte_at-2 : goal.returns-then-byte_at-2
returns-then-byte_at-2 c =
    let x = c.args in
    no_selector_read x.text.now x.at
    (λ q e. c.if-byte_at-2.true (c.byte_at-2.ensures ∙ (selector_bytes_lem x.text.now x.at q e).1))

pub returns-then-last : goal.returns-then-last
returns-then-last c =
    let x = c.args in
    selector_read x.text.now x.at Text
    (sym c.byte_at.ensures ∙ c.if-byte_at.false)
    (sym c.byte_at-2.ensures ∙ c.if-byte_at-2.false)
    (sym c.byte_at-last.ensures ∙ c.if-last.true)

pub returns-then-last-2 : goal.returns-then-last-2
returns-then-last-2 c =
    let x = c.args in
    selector_read x.text.now x.at Emoji
    (sym c.byte_at.ensures ∙ c.if-byte_at.false)
    (sym c.byte_at-2.ensures ∙ c.if-byte_at-2.false)
    (sym c.byte_at-last.ensures ∙ c.if-last-2.true)

pub returns : goal.returns
returns c =
    let x = c.args in
    no_last x.text.now x.at c.byte_at-last.result c.byte_at-last.ensures c.if-last.false
    c.if-last-2.false
