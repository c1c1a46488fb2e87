-- `sheet_reading::ended_at` meets its contract.
use native.Mathlib.Omega.{arith}
use Rattle.sheet_reading.proofs.Checking.{ended_down, ended_four, ended-short}
use Rattle.sheet_reading.proofs.ended_at.Goals as goal

pub returns-in-Some : goal.returns-in-Some
returns-in-Some c r h = ended_down c.args.c r h c.args.len c.in-Some.is

pub returns-then-c-ne4 : goal.returns-then-c-ne4
returns-then-c-ne4 c r h = ended-short c.args.c r h c.args.len c.in_default.is c.if-c-ne4.true

pub returns-in-Some-stray : goal.returns-in-Some-stray
returns-in-Some-stray c r h = ended_four c.args.c r h c.args.len c.in_default.is (omega arith) c.in-Some-stray.is

pub returns-in-None : goal.returns-in-None
returns-in-None c r h = ended_four c.args.c r h c.args.len c.in_default.is (omega arith) c.in-None.is
