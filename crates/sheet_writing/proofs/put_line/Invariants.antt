-- `sheet_writing::put_line` meets its contract. The loop's invariant: what the entries from i on add is still to be written.
use mathlib.Core.Path.{◌≡◌}
use mathlib.Core.Bool.{false}
use Prim.Native.Nat.{ℕ}
use lib.ListN.{drop}
use Rattle.base.proofs.Writer.{Writing}
use Rattle.emoji.specs.UnicodeData.{variation_entries}
use Rattle.policy_key_set.specs.Sets.{member}
use Rattle.policy_sheet.specs.Writer.{first_in}
use Rattle.sheet_writing.specs.OnePass.{line_from}
use Rattle.sheet_writing.proofs.put_line.Given as goal

abbrev pub invariant-loop-i : goal.invariant-loop-i
invariant-loop-i l = (l.here ≡ first_in (λ (j : ℕ). member j l.set.bits) l.i (drop l.i variation_entries))
    × Writing (line_from (λ (j : ℕ). member j l.set.bits) 0 false false variation_entries) l.start l.initial.out
    (line_from (λ (j : ℕ). member j l.set.bits) l.i l.before l.any (drop l.i variation_entries)) l.out l.at
