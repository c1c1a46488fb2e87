-- `feeding::ascii::put_base` meets its contract.
use mathlib.Core.Path.{refl}
use Rattle.feeding.proofs.Copying.{base_none, base_put}
use Rattle.feeding.proofs.ascii.put_base.Goals as goal

pub returns-then-base-eq0 : goal.returns-then-base-eq0
returns-then-base-eq0 c = let x = c.args in base_none x.base x.out.now c.if-base-eq0.true

pub returns : goal.returns
returns c = base_put c.args.base c.args.out.now c.if-base-eq0.false c.requires.0 c.low_byte.ensures refl
