-- `positions::count_few` meets its contract. The invariant: what was counted, and what the rest counts, are together the whole.
use mathlib.Core.Path.{◌≡◌}
use Prim.Native.Nat.{◌+◌}
use lib.ListN.{drop}
use Rattle.positions.specs.Positions.{leads, long_leads_of}
use Rattle.positions.proofs.count_few.Given as goal

abbrev pub invariant-loop-b : goal.invariant-loop-b
invariant-loop-b l = (l.leads + leads (drop l.b-index l.part) ≡ leads l.part) ×
    (l.long + long_leads_of (drop l.b-index l.part) ≡ long_leads_of l.part)
