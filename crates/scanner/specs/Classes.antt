-- The class of a character: the scanner asks no more of a character than which of eight classes it has (document 01, "Character").
use Rattle.std.specs.Prelude.{Bool, cond, List, [], ◌∷◌, ℕ, eqb}
use Rattle.emoji.specs.Presentation.{is_selector}
use Rattle.emoji.specs.Unicode.{is_emoji, is_emoji_modifier, is_ri, is_tag}
-- Selectors, links, regional indicators (RI), modifiers, the other emoji, 20E3, tags, and the rest.
pub use Rattle.scanner.specs.declared.char_class.Class.{Class}
pub use Rattle.scanner.specs.declared.char_class.Class.TheVariants.{
  Selector as selector,
  Link as link,
  Ri as ri,
  Modifier as modifier,
  Emoji as emoji,
  Keycap as keycap,
  Tag as tag,
  Other as other,
}

-- The class of a character is the first one that fits. The tables of document 01 say which characters are emoji, RI and modifiers.
unfoldable pub class_of : ℕ → Class
class_of c =
    cond (is_selector c) selector
    (cond (eqb c 0x200D) link
    (cond (eqb c 0x20E3) keycap
    (cond (is_tag c) tag
    (cond (is_ri c) ri
    (cond (is_emoji_modifier c) modifier
    (cond (is_emoji c) emoji other))))))

-- The number of a class, in the order of the list above.
abbrev pub class_number : Class → ℕ
class_number selector = 0
class_number link = 1
class_number ri = 2
class_number modifier = 3
class_number emoji = 4
class_number keycap = 5
class_number tag = 6
class_number other = 7

-- Whether k is the class j.
abbrev pub is_class : Class → Class → Bool
is_class j k = eqb (class_number k) (class_number j)

-- A list of characters without its selectors.
unfoldable pub strip : List ℕ → List ℕ
strip [] = []
strip (c ∷ t) = cond (is_selector c) (strip t) (c ∷ strip t)
