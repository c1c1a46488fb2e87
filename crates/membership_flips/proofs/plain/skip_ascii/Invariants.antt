-- `membership_flips::plain::skip_ascii` meets its contract. The loop's invariant: no character up to `at` has a variation entry.
use Rattle.membership_flips.specs.Pass.{NoEntryBetween}
use Rattle.membership_flips.proofs.plain.skip_ascii.Given as goal

abbrev pub invariant-loop-at : goal.invariant-loop-at
invariant-loop-at l = NoEntryBetween l.text l.from l.at
