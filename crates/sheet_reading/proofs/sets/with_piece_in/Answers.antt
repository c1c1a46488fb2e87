-- `sheet_reading::sets::with_piece_in` meets its contract.
use native.Mathlib.Omega.{arith}
use Rattle.sheet_reading.proofs.PieceSets.{set_more, set_other}
use Rattle.policy_sheet.specs.Meaning.{in_set}
use Rattle.sheet_reading.proofs.sets.with_piece_in.Goals as goal

pub returns-then-line-k : goal.returns-then-line-k
returns-then-line-k c xs x s h =
    set_more c.with_range.result.bits xs x (omega arith) s
    (c.with_range.ensures (in_set xs c.args.k) h)

pub returns : goal.returns
returns c xs x s h = set_other c.args.set.bits xs x c.if-line-k.false s h
