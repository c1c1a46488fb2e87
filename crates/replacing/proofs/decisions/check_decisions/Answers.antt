-- `replacing::decisions::check_decisions` meets its contract: the number is tested before the bytes.
use borrow.Author.Tests.{eq-eqb, ne_eqb}
use Rattle.base.proofs.Answering.{answers}
use Rattle.analysis.specs.Decisions.{decisions_refusal}
use Rattle.replacing.proofs.decisions.check_decisions.Goals as goal

pub returns-then-decisions-wanted : goal.returns-then-decisions-wanted
unfolding decisions_refusal
returns-then-decisions-wanted c = answers (simp (ne_eqb _ _ c.if-decisions-wanted.true))

pub returns : goal.returns
unfolding decisions_refusal
returns c = answers (simp (c.check_bytes.ensures, eq-eqb _ _ c.if-decisions-wanted.false))
