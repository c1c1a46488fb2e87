-- `membership_flips::pass::flag_uses` meets its contract. The loop's invariant: the flags, with what occurs from `at` on, say what
-- occurs in the whole text. The measure is the number of bytes after `at`.
use Prim.Native.Nat.{◌-◌}
use lib.ListN.{length}
use Rattle.membership_flips.proofs.Flagging.{FlagsUpTo}
use Rattle.membership_flips.proofs.pass.flag_uses.Given as goal

abbrev pub invariant-loop-at : goal.invariant-loop-at
invariant-loop-at l = FlagsUpTo l.text l.flags l.at

abbrev pub decreases-loop-at : goal.decreases-loop-at
decreases-loop-at l = length l.text - l.at
