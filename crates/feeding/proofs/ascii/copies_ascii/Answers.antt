-- `feeding::ascii::copies_ascii` meets its contract: the words and the policy pass the test of a feed.
use mathlib.Core.Path.{ap, sym, ◌∙◌}
use mathlib.Core.Bool.{true≢false}
use native.Mathlib.Omega.{arith}
use Rattle.base.proofs.Words.{bytes_all}
use Rattle.policy.specs.PolicyBytes.{ascii_keys_bare, is_policy}
use Rattle.feed.proofs.Reading.{policy-lent}
use Rattle.feeding.proofs.Copying.{copies_if}
use Rattle.feeding.proofs.ascii.copies_ascii.Goals as goal

pub returns-then-not-words_fit : goal.returns-then-not-words_fit
returns-then-not-words_fit c = λ e. absurd (true≢false (sym e))

pub returns-then-not-ascii_keys_bare : goal.returns-then-not-ascii_keys_bare
returns-then-not-ascii_keys_bare c = λ e. absurd (true≢false (sym e))

pub returns : goal.returns
returns c =
    λ e.
    let f = c.args.feed.now in
    copies_if f (c.words_fit.ensures c.if-not-words_fit.false) c.requires
    (sym (c.is_policy.ensures ∙ ap is_policy (policy-lent f)) ∙ e)
    (sym (c.ascii_keys_bare.ensures ∙ ap ascii_keys_bare (policy-lent f))
    ∙ c.if-not-ascii_keys_bare.false)
    (bytes_all f (λ j. omega (arith, (c.type_inv.feed j).fits)))
