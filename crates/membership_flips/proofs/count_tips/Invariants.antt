-- `membership_flips::count_tips` meets its contract. The loop counts those before its number.
use mathlib.Core.Path.{◌≡◌}
use Prim.Native.Nat.{◌+◌, ◌≤◌}
use lib.ListN.{length}
use Rattle.membership_flips.specs.Pass.{tip_test}
use Rattle.membership_flips.proofs.Listing.{tipping_from}
use Rattle.membership_flips.proofs.count_tips.Given as goal

abbrev pub invariant-loop-n : goal.invariant-loop-n
invariant-loop-n l = (l.count ≤ l.n)
    × (l.count + length (tipping_from (tip_test l.policy l.flags) l.n) ≡ length (tipping_from (tip_test l.policy l.flags) 0))
