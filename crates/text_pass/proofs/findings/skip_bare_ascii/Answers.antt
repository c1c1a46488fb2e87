-- `text_pass::findings::skip_bare_ascii` meets its contract.
use native.Mathlib.Omega.{arith}
use Rattle.text_pass.proofs.Passing.{skips_here}
use Rattle.text_pass.proofs.findings.skip_bare_ascii.Goals as goal

pub returns-then-not-bare : goal.returns-then-not-bare
returns-then-not-bare c = λ p _. skips_here _

pub returns-then-text-from : goal.returns-then-text-from
returns-then-text-from c = λ p _. skips_here _

pub returns-then-text-from-gt127 : goal.returns-then-text-from-gt127
returns-then-text-from-gt127 c = λ p _. skips_here _

pub skip_ascii-requires : goal.skip_ascii-requires
skip_ascii-requires c = (omega (arith, c.if-text-from.false), omega (arith, c.if-text-from-gt127.false))

pub returns : goal.returns
returns c = λ p h. c.skip_ascii.ensures.skips p (h c.if-not-bare.false)
