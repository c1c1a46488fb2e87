-- `formatting::put_change` meets its contract: it puts one piece after the other.
use mathlib.Core.Path.{ap}
use Prim.Native.Nat.{◌-◌}
use native.Mathlib.Omega.{arith}
use lib.ListN.{drop, length, length-drop}
use lib.Seq.{length-sets, length-take-le}
use Rattle.base.proofs.Writer.{put_then}
use Rattle.formatting.proofs.put_change.Goals as goal

pub put_selector-requires : goal.put_selector-requires
put_selector-requires c =
    let w = c.put_part-end.ensures in
    let l = length-take-le (c.args.change.start - c.args.from) (drop c.args.from c.args.text.now)
    (omega (arith, length-drop c.args.from c.args.text.now, c.requires)) in
    omega (arith, c.requires, w.ends, l, simp length-sets at (ap length w.bytes))

pub returns : goal.returns
returns c = put_then c.put_part-end.ensures c.put_selector.ensures
