-- `sheet_writing::line_len` meets its contract. The loop's invariant: the length so far and what the entries from i on add are the line's.
use mathlib.Core.Path.{◌≡◌}
use mathlib.Core.Bool.{false}
use Prim.Native.Nat.{ℕ, ◌+◌, ◌*◌, ◌≤◌}
use lib.ListN.{drop, length}
use Rattle.emoji.specs.UnicodeData.{variation_entries}
use Rattle.policy_key_set.specs.Sets.{member}
use Rattle.policy_sheet.specs.Writer.{first_in}
use Rattle.sheet_writing.specs.OnePass.{line_from}
use Rattle.sheet_writing.proofs.line_len.Given as goal

abbrev pub invariant-loop-i : goal.invariant-loop-i
invariant-loop-i l = (l.n ≤ 7 * l.i)
    × (l.here ≡ first_in (λ (j : ℕ). member j l.set.bits) l.i (drop l.i variation_entries))
    × (l.n + length (line_from (λ (j : ℕ). member j l.set.bits) l.i l.before l.any (drop l.i variation_entries))
    ≡ length (line_from (λ (j : ℕ). member j l.set.bits) 0 false false variation_entries))
