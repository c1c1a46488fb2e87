-- Contracts of helper functions: src/selectors.rt returns the selectors at an offset as "a unit's selector run held as its first
-- two and its length" (document 01).
use Rattle.emoji.specs.declared.presentation.Presentation.{Presentation}
use Rattle.std.specs.Prelude.{List, [], ◌∷◌, ℕ, ◌+◌, length, drop, None, Option}
use Rattle.utf8.specs.Rfc3629.{chars}
use Rattle.emoji.specs.Presentation.{from_selector}
use Rattle.scanner.specs.Runs.{selectors_at}
use Rattle.scanner.specs.Spans.{size, width}
use Rattle.scanner.specs.declared.selectors.PresentationSelectors.{PresentationSelectors}

-- The presentation that the first character selects, or that the first character is no selector.
unfoldable pub first_selector : List ℕ → Option Presentation
first_selector [] = None
first_selector (c ∷ t) = from_selector c

-- The same of the second character.
unfoldable pub second_selector : List ℕ → Option Presentation
second_selector [] = None
second_selector (c ∷ t) = first_selector t

-- The value for selectors that begin at an offset: the first two, their number, and the offset of their end.
abbrev pub selectors_from : ℕ → List ℕ → PresentationSelectors
selectors_from at s = record { first = first_selector s; second = second_selector s; count = length s; end = at + size width s }

-- The value for the selectors of a text at an offset.
unfoldable pub selector_run : List ℕ → ℕ → PresentationSelectors
selector_run text at = selectors_from at (selectors_at (chars (drop at text)))
