-- `positions::count` meets its contract. The invariant: what was counted, and what the rest counts, are together the whole.
use mathlib.Core.Path.{◌≡◌}
use Prim.Native.Nat.{◌+◌}
use Rattle.std.specs.Slice.Iter.{chunks_rest, chunks_size}
use Rattle.positions.specs.Positions.{leads, long_leads_of}
use Rattle.positions.proofs.count.Given as goal

abbrev pub invariant-loop-bytes : goal.invariant-loop-bytes
invariant-loop-bytes l =
    goal.iterator-loop-bytes.can_next l.bytes-iterator × goal.iterator-loop-bytes.is_finite l.bytes-iterator
    × (chunks_size l.bytes-iterator ≡ 192) × (l.leads + leads (chunks_rest l.bytes-iterator) ≡ leads l.part)
    × (l.long + long_leads_of (chunks_rest l.bytes-iterator) ≡ long_leads_of l.part)
