-- The number of entries is at most the number of code points compared.
use Rattle.std.proofs.Common.{◌≤◌}
use Rattle.published_data.proofs.compare.compare_entries.Given as goal

abbrev pub invariant-loop-ch : goal.invariant-loop-ch
invariant-loop-ch l = l.index ≤ l.ch
