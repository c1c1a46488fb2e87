-- "Selectors: FE0E is Text, FE0F is Emoji" (document 01, "Character").
use Rattle.std.specs.Prelude.{Bool, cond, ◌||◌, ℕ, eqb, Some, None, Option}
use Rattle.emoji.specs.declared.presentation.Presentation.{Presentation}
use Rattle.emoji.specs.declared.presentation.Presentation.TheVariants.{Emoji, Text}

-- The selector that requests a presentation.
unfoldable pub as_selector : Presentation → ℕ
as_selector Text = 0xFE0E
as_selector Emoji = 0xFE0F

-- The presentation that a character requests, if it is a selector.
unfoldable pub from_selector : ℕ → Option Presentation
from_selector c = cond (eqb c 0xFE0E) (Some Text) (cond (eqb c 0xFE0F) (Some Emoji) None)

-- The character is a selector.
unfoldable pub is_selector : ℕ → Bool
is_selector c = eqb c 0xFE0E || eqb c 0xFE0F
