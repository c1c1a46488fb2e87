-- Contracts of helper functions: `in_run` and `run_end` of src/char_runs.rt. One loop reads each of these runs of document 01, "Item",
-- by the class of each character.
-- They are the runs of specs/Runs.antt: specs/Theorems.antt, RunsByClass.
use Rattle.std.specs.Prelude.{Bool, not, ◌||◌, List, ℕ}
use Rattle.scanner.specs.Classes.{Class, selector, link, ri, modifier, emoji, keycap, tag, class_of, is_class}
use Rattle.scanner.specs.Runs.{run}
use Rattle.scanner.specs.declared.char_runs.RunKind.{RunKind}
use Rattle.scanner.specs.declared.char_runs.RunKind.TheVariants.{Links, Modifications, Passthrough, Selectors, Tags}

abbrev pub is_selector_class : Class → Bool
is_selector_class = is_class selector

abbrev pub is_link_class : Class → Bool
is_link_class = is_class link

abbrev pub is_tag_class : Class → Bool
is_tag_class = is_class tag

-- Whether the characters of a class are emoji.
abbrev pub is_emoji_class : Class → Bool
is_emoji_class k = is_class ri k || (is_class modifier k || is_class emoji k)

-- Whether a modification begins with the characters of a class.
abbrev pub is_modification_class : Class → Bool
is_modification_class k = is_class modifier k || (is_class keycap k || is_class tag k)

-- Whether a character of the class belongs to the run.
abbrev pub in_run : RunKind → Class → Bool
in_run Selectors k = is_selector_class k
in_run Links k = is_link_class k || is_selector_class k
in_run Modifications k = is_modification_class k || is_selector_class k
in_run Tags k = is_tag_class k
in_run Passthrough k = not (is_selector_class k || (is_link_class k || is_emoji_class k))

-- The run at the front of a text.
abbrev pub run_of : RunKind → List ℕ → List ℕ
run_of k t = run (λ c. in_run k (class_of c)) t
