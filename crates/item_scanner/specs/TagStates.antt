-- Contracts of helper functions: `after_tag` and `is_complete` of src/consume.rt. The tags of one tag modification, selectors skipped,
-- are read from left to right by an automaton, whose state says what the tags read so far are.
use Rattle.std.specs.Prelude.{Bool, true, false, cond, ℕ}
use Rattle.scanner.specs.Tags.{is_cancel}
use Rattle.item_scanner.specs.declared.consume.TagState.{TagState}
use Rattle.item_scanner.specs.declared.consume.TagState.TheVariants.{Broken, Complete, NoTag, Open}

-- The state after one more tag.
abbrev pub after_tag : TagState → ℕ → TagState
after_tag NoTag c = cond (is_cancel c) Broken Open
after_tag Open c = cond (is_cancel c) Complete Open
after_tag Complete c = Broken
after_tag Broken c = Broken

-- Whether the tags read so far are complete, if no tag follows. Where there is no tag, there is no tag modification.
abbrev pub is_complete : TagState → Bool
is_complete NoTag = true
is_complete Open = false
is_complete Complete = true
is_complete Broken = false
