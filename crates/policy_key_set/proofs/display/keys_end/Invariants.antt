-- `display::keys_end` meets its contract. The loop's invariant: the offset plus the length of the keys from entry `i` on is the offset
-- after all keys.
use mathlib.Core.Path.{◌≡◌}
use Prim.Native.Nat.{◌+◌, ◌*◌, ◌≤◌}
use lib.ListN.{drop, length}
use Rattle.emoji.specs.UnicodeData.{variation_entries}
use Rattle.policy_key_set.specs.Display.{key_texts, written_from}
use Rattle.policy_key_set.proofs.display.keys_end.Given as goal

abbrev pub invariant-loop-i : goal.invariant-loop-i
invariant-loop-i l = (l.at ≤ l.start + 17 * l.i) × (l.start ≤ 0x10000)
    × (l.at + length (written_from l.at (key_texts l.keycap l.set.bits l.i (drop l.i variation_entries)))
    ≡ l.start + length (written_from l.start (key_texts l.keycap l.set.bits 0 variation_entries)))
