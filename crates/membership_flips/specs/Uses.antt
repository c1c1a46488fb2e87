-- Which flips tip a text, by one pass over its cells (crate analysis, specs/Cells.antt). That it is the same: Theorems, TipsByUse.
use Rattle.emoji.specs.declared.presentation.Presentation.{Presentation}
use Rattle.std.specs.Prelude.{Bool, true, false, ◌&&◌, ◌||◌, cond, not, List, [], ◌∷◌, ℕ, eqb, Some, None, Option}
use Rattle.std.specs.Bool.{beq}
use Rattle.emoji.specs.declared.presentation.Presentation.TheVariants.{Emoji, Text}
use Rattle.scanner.specs.declared.char_class.Class.{Class}
use Rattle.analysis.specs.Analysis.{following}
use Rattle.analysis.specs.Cells.{Cell}
use Rattle.analysis.specs.Rules.{by_keycap, by_modifier, by_tags, first_asked}

-- The policy decides a base (rule 6), by its keycap sets or by its ordinary sets: no modifier and no tags follow, and 20E3 follows in the
-- first case and not in the second.
unfoldable pub judged_in : Bool → Class → Bool
judged_in keycap k = not (by_modifier k) && (not (by_tags k) && beq (by_keycap k) keycap)

-- The same first selector, or none in both.
abbrev pub same_first : Option Presentation → Option Presentation → Bool
same_first None None = true
same_first None (Some q) = false
same_first (Some q) None = false
same_first (Some Text) (Some Text) = true
same_first (Some Text) (Some Emoji) = false
same_first (Some Emoji) (Some Text) = false
same_first (Some Emoji) (Some Emoji) = true

-- Among the cells is a base of this code point that the policy decides in this domain, with this first selector, or with none.
unfoldable pub occurs : ℕ → Bool → List Cell → Option Presentation → Bool
occurs c keycap [] f = false
occurs c keycap (x ∷ xs) f =
    (eqb x.char c && judged_in keycap (following xs)) && same_first f (first_asked x.after) || occurs c keycap xs f

-- A flip in `prefer_bare` or in `bare_as_text` matters, by whether the two sets hold the entry and by what occurs.
unfoldable pub matters : Bool → Bool → Bool → (Option Presentation → Bool) → Bool
matters false prefers is_text uses = uses None || cond is_text (uses (Some Text)) (uses (Some Emoji))
matters true false is_text uses = uses None
matters true true is_text uses = uses (Some Text) || uses (Some Emoji)
