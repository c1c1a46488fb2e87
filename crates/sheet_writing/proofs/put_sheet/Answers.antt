-- `sheet_writing::put_sheet` meets its contract.
use native.Mathlib.Omega.{arith}
use Rattle.base.proofs.Output.{too_short, wrote}
use Rattle.policy_sheet.specs.Writer.{write_sheet}
use Rattle.sheet_writing.proofs.put_sheet.Goals as goal

pub returns-then-out-wanted : goal.returns-then-out-wanted
returns-then-out-wanted c = too_short (write_sheet c.args.policy) c.sheet_len-wanted.ensures.0 c.if-out-wanted.true

pub put_lines-requires : goal.put_lines-requires
put_lines-requires c = omega (arith, c.sheet_len-wanted.ensures.0, c.if-out-wanted.false)

pub returns : goal.returns
returns c =
    wrote c.sheet_len-wanted.ensures.0
    (omega (arith, c.if-out-wanted.false)) c.put_lines.ensures
