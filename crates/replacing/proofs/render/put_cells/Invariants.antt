-- `replacing::render::put_cells` meets its contract. The loop's invariant: the bytes for the cells from `at` on, under the
-- decisions from `used` on, are still to be written at `to`; no selector leads at `at`; and at most `at` decisions are used. The
-- measure is the number of bytes after `at`.
use mathlib.Core.Path.{◌≡◌}
use mathlib.Core.List.{[]}
use Prim.Native.Nat.{◌-◌, ◌≤◌}
use lib.ListN.{drop, length}
use Rattle.base.proofs.Writer.{Writing}
use Rattle.utf8.specs.Rfc3629.{chars}
use Rattle.analysis.specs.Cells.{leading}
use Rattle.analysis.proofs.Rendering.{bytes_from}
use Rattle.replacing.proofs.render.put_cells.Given as goal

abbrev pub invariant-loop-policy : goal.invariant-loop-policy
invariant-loop-policy l = (l.used ≤ l.at) × (leading (chars (drop l.at l.text)) ≡ [])
    × Writing (bytes_from l.policy l.text l.decisions 0 0) 0 l.initial.out (bytes_from l.policy l.text l.decisions l.at l.used) l.out l.to

abbrev pub decreases-loop-policy : goal.decreases-loop-policy
decreases-loop-policy l = length l.text - l.at
