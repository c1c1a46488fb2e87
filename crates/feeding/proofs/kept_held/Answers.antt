-- `feeding::kept_held` meets its contract: without a base there is no selector.
use Rattle.feeding.proofs.Pieces.{held_none, held-some}
use Rattle.feeding.proofs.kept_held.Goals as goal

pub returns-then-held-eq0 : goal.returns-then-held-eq0
returns-then-held-eq0 c = λ p. held_none c.args.held c.if-held-eq0.true c.new_held.ensures p

pub returns : goal.returns
returns c = λ p. held-some c.args.held c.if-held-eq0.false p
