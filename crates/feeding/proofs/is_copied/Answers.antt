-- `feeding::is_copied` meets its contract.
use mathlib.Core.Path.{sym}
use mathlib.Core.Bool.{true≢false}
use borrow.Author.Tests.{eqb-true}
use Rattle.feeding.proofs.is_copied.Goals as goal

pub returns-then-not-plain : goal.returns-then-not-plain
returns-then-not-plain c = λ e. absurd (true≢false (sym e))

pub returns : goal.returns
returns c = λ e. (c.if-not-plain.false, eqb-true c.args.base 0 e)
