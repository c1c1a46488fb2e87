-- `display::put_keys` meets its contract. The loop's invariant: the keys before entry `i` are written.
use lib.ListN.{drop}
use Rattle.base.proofs.Writer.{Writing}
use Rattle.emoji.specs.UnicodeData.{variation_entries}
use Rattle.policy_key_set.specs.Display.{key_texts, written_from}
use Rattle.policy_key_set.proofs.display.put_keys.Given as goal

abbrev pub invariant-loop-i : goal.invariant-loop-i
invariant-loop-i l =
    Writing (written_from l.start (key_texts l.keycap l.set.bits 0 variation_entries)) l.start l.initial.out
    (written_from l.at (key_texts l.keycap l.set.bits l.i (drop l.i variation_entries))) l.out l.at
