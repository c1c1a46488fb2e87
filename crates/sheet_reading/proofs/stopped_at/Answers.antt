-- `sheet_reading::stopped_at` meets its contract.
use Rattle.sheet_reading.proofs.Checking.{stopped-first}
use Rattle.sheet_reading.proofs.stopped_at.Goals as goal

pub returns : goal.returns
returns c len r h = stopped-first c.args.c r h c.args.at len c.unwrap_or.ensures
