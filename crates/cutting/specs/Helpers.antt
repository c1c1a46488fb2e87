-- Contracts of helper functions: `may_begin` of specs/Cut.antt by the class of a character, of which the scanner knows no more.
-- proofs/Classes.antt has that both are the same (`by_class`).
use Rattle.std.specs.Prelude.{Bool, true, false}
use Rattle.scanner.specs.declared.char_class.Class.{Class}
use Rattle.scanner.specs.declared.char_class.Class.TheVariants.{
  Selector as selector,
  Link as link,
  Ri as ri,
  Modifier as modifier,
  Emoji as emoji,
  Keycap as keycap,
  Tag as tag,
  Other as other,
}

-- Whether a character of this class may begin the second part.
abbrev pub class_may_begin : Class → Bool
class_may_begin selector = false
class_may_begin link = true
class_may_begin ri = true
class_may_begin modifier = false
class_may_begin emoji = true
class_may_begin keycap = false
class_may_begin tag = false
class_may_begin other = true
