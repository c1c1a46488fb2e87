-- The cells of a list of characters. A cell is a character that is no selector, with the selectors after it (S of document 01,
-- "Item").
use Rattle.std.specs.Prelude.{cond, List, [], ◌∷◌, ◌++◌, map, ℕ, Some, None, Option}
use Rattle.emoji.specs.Presentation.{as_selector, from_selector, is_selector}
use Rattle.emoji.specs.declared.presentation.Presentation.{Presentation}
use Rattle.scanner.specs.Spans.{size}

-- A cell: its character, which is no selector, and the presentations that the selectors after it select.
pub record Cell : Type 0 where
  pub char : ℕ
  pub after : List Presentation

-- One more character in front: a selector joins the leading selectors; any other character becomes a cell with them.
unfoldable pub add_char : ℕ → Option Presentation → List Presentation × List Cell → List Presentation × List Cell
add_char c (Some q) r = (q ∷ r.0, r.1)
add_char c None r = ([], record { char = c; after = r.0 } ∷ r.1)

-- The leading selectors and the cells.
unfoldable pub split : List ℕ → List Presentation × List Cell
split [] = ([], [])
split (c ∷ t) = add_char c (from_selector c) (split t)

-- The selectors at the front, before any other character.
abbrev pub leading : List ℕ → List Presentation
leading t = (split t).0

-- The cells after the leading selectors.
abbrev pub cells : List ℕ → List Cell
cells t = (split t).1

-- The characters of cells.
abbrev pub unsplit : List Cell → List ℕ
unsplit [] = []
unsplit (x ∷ xs) = x.char ∷ (map as_selector x.after ++ unsplit xs)

-- The number of selectors among characters.
unfoldable pub selector_count : List ℕ → ℕ
selector_count t = size (λ c. cond (is_selector c) 1 0) t
