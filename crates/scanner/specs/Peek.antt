-- Contracts of helper functions: `peek` of src/char_class.rt, which reads the character at an offset, its class and the offset
-- after it.
use Rattle.std.specs.Prelude.{List, [], ◌∷◌, ℕ, ◌+◌, Some, None, Option}
use Rattle.scanner.specs.Classes.{class_of}
use Rattle.scanner.specs.Spans.{width}
use Rattle.scanner.specs.declared.char_class.Peeked.{Peeked}

-- The list has the characters of the text from the offset on.
unfoldable pub peek_at : ℕ → List ℕ → Option Peeked
peek_at at [] = None
peek_at at (c ∷ t) = Some (record { value = c; class = (class_of c); end = (at + width c) })
