-- `text_pass::plain::skip_plain` meets its contract. The loop's invariant: formatting keeps all bytes up to `at`, if the policy keeps the
-- ASCII bases bare where `bare` says so. The measure is the number of bytes after `at`.
use Prim.Native.Nat.{◌-◌}
use mathlib.Core.Path.{◌≡◌}
use mathlib.Core.Bool.{true}
use lib.ListN.{length}
use Rattle.policy.specs.declared.Policy.{Policy}
use Rattle.text_pass.specs.Changes.{AsciiBare, UnchangedBetween}
use Rattle.text_pass.proofs.plain.skip_plain.Given as goal

abbrev pub invariant-loop-at : goal.invariant-loop-at
invariant-loop-at l = (p : Policy) → (l.bare ≡ true → AsciiBare p) → UnchangedBetween p l.text l.from l.at

abbrev pub decreases-loop-at : goal.decreases-loop-at
decreases-loop-at l = length l.text - l.at
