-- `formatter::filed::filed_text` meets its contract.
use native.Mathlib.Omega.{arith}
use lib.ListN.{length}
use borrow.Author.Tests.{le-leb, lt-leb}
use Rattle.formatter.specs.Filed.{filed_text}
use Rattle.formatter.proofs.filed.filed_text.Goals as goal

pub returns-then-changed : goal.returns-then-changed
unfolding filed_text
returns-then-changed c =
    let a = c.args in
    simp (c.if-changed.true, lt-leb a.len (length a.buffer.now) (omega arith))

pub returns : goal.returns
unfolding filed_text
returns c = simp c.if-changed.false

pub returns-then-len-buffer : goal.returns-then-len-buffer
unfolding filed_text
returns-then-len-buffer c =
    let a = c.args in
    simp (c.if-changed.true, le-leb a.len (length a.buffer.now) (omega arith))
