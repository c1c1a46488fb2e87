-- `emoji::variation_char` meets its contract: the character of the entry, or 0 (`entry_or`).
use mathlib.Core.Path.{ap, ◌∙◌}
use Prim.Native.Nat.{ℕ}
use Rattle.std.specs.Option.{unwrap_or}
use Rattle.std.specs.Prelude.{Option}
use Rattle.emoji.specs.Unicode.{variation_entry}
use Rattle.emoji.specs.UnicodeData.{variation_entries}
use Rattle.emoji.proofs.Ascent.{entry_or}
use Rattle.emoji.proofs.variation_char.Goals as goal

pub returns : goal.returns
unfolding variation_entry
returns c =
    c.unwrap_or.ensures ∙ ap (λ (o : Option ℕ). unwrap_or o 0) c.variation_entry.ensures ∙ entry_or c.args.index variation_entries
