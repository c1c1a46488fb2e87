-- Contracts of helper functions: the parts of a piece. A piece completes a character; then it has selectors, then characters that are
-- formatted by themselves, and at its end a base that is held, with its selectors.
use Rattle.std.specs.Prelude.{
  ◌≡◌,
  true,
  false,
  cond,
  List,
  [],
  ◌∷◌,
  ◌++◌,
  map,
  ℕ,
  ◌+◌,
  ◌*◌,
  ◌/◌,
  ◌%◌,
  ◌-◌,
  ◌<◌,
  ◌≤◌,
  eqb,
  drop,
  length,
  None,
}
use Rattle.base.specs.Words.{little_endian}
use Rattle.utf8.specs.Rfc3629.{chars, encode_all, is_scalar, packed, read_char, valid_up_to_of}
use Rattle.utf8.specs.declared.ReadChar.TheVariants.{Char}
use Rattle.emoji.specs.Presentation.{as_selector, is_selector}
use Rattle.emoji.specs.Unicode.{has_variation_sequence}
use Rattle.emoji.specs.declared.presentation.Presentation.{Presentation}
use Rattle.policy.specs.declared.Policy.{Policy}
use Rattle.analysis.specs.CellView.{total_cells}
use Rattle.analysis.specs.Counts.{total}
use Rattle.analysis.specs.Rules.{first_asked}
use Rattle.scanner.specs.SelectorRun.{first_selector}
use Rattle.feed.specs.Feed.{fed_as}
use Rattle.feeding.specs.Helpers.{TakenBy}
use Rattle.feeding.specs.declared.Front.{Front}
use Rattle.feeding.specs.declared.Taken.{Taken}
use Rattle.feeding.specs.declared.scan.PieceScan.{PieceScan}
use Rattle.feeding.specs.declared.tail.HeldTail.{HeldTail}

-- ---- the tests of a piece

-- The completed character as one number: 0 if no bytes were unfinished, else the first character of the joined bytes.
pub record FirstChar (n : ℕ) (u : List ℕ) (r : ℕ) : Type 0 where
  pub no_rest : n ≡ 0 → r ≡ 0
  pub with_rest : (n ≡ 0 → ⊥) → r ≡ packed (read_char (drop 0 u))

-- Where a piece of `len` bytes goes on after the completed character.
pub record PieceFrom (n first len r : ℕ) : Type 0 where
  pub no_rest : n ≡ 0 → r ≡ 0
  pub none_complete : (n ≡ 0 → ⊥) → first ≡ 0 → r ≡ len
  pub complete : (n ≡ 0 → ⊥) → (first ≡ 0 → ⊥) → n + r ≡ first % 8

-- The length of the longest well-formed beginning of the joined bytes.
pub record JoinedValid (n first end r : ℕ) : Type 0 where
  pub no_rest : n ≡ 0 → r ≡ end
  pub none_complete : (n ≡ 0 → ⊥) → first ≡ 0 → r ≡ 0
  pub complete : (n ≡ 0 → ⊥) → (first ≡ 0 → ⊥) → r ≡ n + end

-- The character that a number encodes, if it is not 0.
abbrev pub char_of : ℕ → List ℕ
char_of n = cond (eqb n 0) [] (n / 8 ∷ [])

-- What was found of the piece itself: where it goes on, where its well-formed bytes end, and whether the rules count nothing in them.
pub record ScanFits (p : Policy) (piece : List ℕ) (r : PieceScan) : Type 0 where
  pub is_scalar_lem : (r.first ≡ 0 → ⊥) → is_scalar (r.first / 8) ≡ true
  pub inside : r.from ≤ length piece
  pub end_is : r.end ≡ r.from + valid_up_to_of (drop r.from piece)
  pub plain_is : r.plain ≡ true → total (total_cells p (chars (drop r.from piece))) ≡ 0

-- The characters of a piece, by what was found of it: the completed character, and those after it.
abbrev pub scanned_chars : List ℕ → PieceScan → List ℕ
scanned_chars piece r = char_of r.first ++ chars (drop r.from piece)

-- The tests of a piece after n unfinished bytes.
pub record Scanned (p : Policy) (n rest : ℕ) (piece : List ℕ) (r : PieceScan) : Type 0 where
  pub fits : ScanFits p piece r
  pub chars_are : chars (little_endian n rest ++ piece) ≡ scanned_chars piece r
  pub valid_is : r.valid ≡ valid_up_to_of (little_endian n rest ++ piece)

-- ---- the end of a piece

-- Between two offsets there are only characters.
pub record Between (text : List ℕ) (from to : ℕ) : Type 0 where
  pub passed : List ℕ
  pub chars_are : chars (drop from text) ≡ passed ++ chars (drop to text)
  pub to_is : to ≡ from + length (encode_all passed)

-- The last character between two offsets begins at the offset `start`.
pub record LastChar (text : List ℕ) (from to start : ℕ) : Type 0 where
  pub value : ℕ
  pub before : start < to
  pub reads : read_char (drop start text) ≡ Char value (to - start)
  pub passed : Between text from start

-- From the offset `start` on there are a character that is no selector, and only selectors after it, up to the offset `to`.
pub record BaseFrom (text : List ℕ) (from to start : ℕ) : Type 0 where
  pub value : ℕ
  pub width : ℕ
  pub selectors : List Presentation
  pub passed : Between text from start
  pub reads : read_char (drop start text) ≡ Char value width
  pub after : chars (drop (start + width) text) ≡ map as_selector selectors
  pub ends : to ≡ start + width + 3 * length selectors
  pub no_selector : is_selector value ≡ false

-- The last character that is no selector has a variation entry: it is held, with its selectors. Or it has none, and nothing is held.
pub data TailFrom (text : List ℕ) (from to : ℕ) (r : HeldTail) : Type 0 where
  one_held : (b : BaseFrom text from to r.start) → has_variation_sequence b.value ≡ true
      → r.held ≡ record { base = b.value; first = first_asked b.selectors; count = length b.selectors } → TailFrom text from to r
  none_held : {start : ℕ} (b : BaseFrom text from to start) → has_variation_sequence b.value ≡ false → r.start ≡ to
      → r.held ≡ record { base = 0; first = None; count = 0 } → TailFrom text from to r

-- Selectors at the front of a piece are taken: they are the characters between two offsets, and no selector follows.
pub record SelectorsTaken (piece : List ℕ) (from : ℕ) (t : Taken) (at : ℕ) (r : Taken) : Type 0 where
  pub selectors : List Presentation
  pub chars_are : chars (drop from piece) ≡ map as_selector selectors ++ chars (drop at piece)
  pub at_is : at ≡ from + 3 * length selectors
  pub inside : at ≤ length piece
  pub taken : (p : Policy) (o : List ℕ) → TakenBy p t.held t.counts (fed_as p (map as_selector selectors)) o t.end o r

-- All selectors at the front of a piece are taken.
pub record FrontTaken (piece : List ℕ) (from : ℕ) (t : Taken) (r : Front) : Type 0 where
  pub so_far : SelectorsTaken piece from t r.at r.taken
  pub none_more : first_selector (chars (drop r.at piece)) ≡ None
