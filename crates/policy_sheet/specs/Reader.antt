-- The reader as an automaton over bytes. The theorems `SheetsRead`, `FirstFault` and `NonEntryRefused` of specs/Theorems.antt say what it
-- answers, by the grammar.
use Rattle.std.specs.Prelude.{
  Bool,
  true,
  false,
  cond,
  ◌&&◌,
  List,
  [],
  ◌∷◌,
  ◌++◌,
  ℕ,
  suc,
  ◌+◌,
  ◌*◌,
  ◌-◌,
  eqb,
  ltb,
  length,
  Some,
  None,
  Option,
}
use Rattle.base.specs.Ranges.{within}
use Rattle.emoji.specs.Unicode.{has_variation_sequence}
use Rattle.policy.specs.declared.Policy.{Policy}
use Rattle.policy_sheet.specs.Grammar.{Piece, Point, allowed_digits}
use Rattle.policy_sheet.specs.Meaning.{sheet_policy}

-- The kinds of bytes.
pub data ByteKind : Type 0 where
  digit : ℕ → ByteKind
  comma : ByteKind
  dash : ByteKind
  newline : ByteKind
  other : ByteKind

-- The kind of a byte.
unfoldable pub kind_of : ℕ → ByteKind
kind_of b =
    cond (within 0x30 0x39 b) (digit (b - 0x30))
    (cond (within 0x41 0x46 b) (digit (b - 0x37)) (cond (eqb b 0x2C) comma (cond (eqb b 0x2D) dash (cond (eqb b 0x0A) newline other))))

-- The state after some bytes: the number of the line; whether nothing of it was read; the pieces that were closed; after the dash of a
-- range, the range's first code point; where the last number starts, how many digits it has so far, and their value.
pub record State : Type 0 where
  pub line : ℕ
  pub fresh : Bool
  pub pieces : List Piece
  pub first : Option Point
  pub from : ℕ
  pub count : ℕ
  pub value : ℕ

-- The state where a piece of line k may start, at an offset.
abbrev pub before_piece : ℕ → Bool → List Piece → ℕ → State
before_piece k f xs at = record { line = k; fresh = f; pieces = xs; first = None; from = at; count = 0; value = 0 }

-- The state before the first byte.
abbrev pub start : State
start = before_piece 0 true [] 0

-- The state after one more digit.
abbrev pub more_digits : State → ℕ → State
more_digits r d = record {
  line = r.line;
  fresh = false;
  pieces = r.pieces;
  first = r.first;
  from = r.from;
  count = suc r.count;
  value = r.value * 16 + d;
}

-- The number that was read last, and the piece that ends with it.
abbrev pub number_read : State → Point
number_read r = record { at = r.from; value = r.value }

-- The first of two code points, if it is there.
unfoldable pub or_else : Option Point → Point → Point
or_else None x = x
or_else (Some y) x = y

abbrev pub piece_read : State → Piece
piece_read r = record { line = r.line; first = or_else r.first (number_read r); last = number_read r }

-- The state after a dash.
abbrev pub after_dash : State → ℕ → State
after_dash r at = record {
  line = r.line;
  fresh = false;
  pieces = r.pieces;
  first = Some (number_read r);
  from = at;
  count = 0;
  value = 0;
}

-- No dash was read in the piece.
unfoldable pub is_none : Option Point → Bool
is_none None = true
is_none (Some x) = false

-- The state after a byte of a kind at an offset, or none if the byte cannot follow.
unfoldable pub transition_by : ℕ → State → ByteKind → Option State
transition_by at r (digit d) = cond (ltb r.count 6) (Some (more_digits r d)) None
transition_by at r comma = cond (allowed_digits r.count) (Some (before_piece r.line false (r.pieces ++ (piece_read r ∷ [])) (at + 1)))
    None
transition_by at r dash = cond (is_none r.first && allowed_digits r.count) (Some (after_dash r (at + 1))) None
transition_by at r newline =
    cond (allowed_digits r.count) (Some (before_piece (suc r.line) true (r.pieces ++ (piece_read r ∷ [])) (at + 1)))
    (cond r.fresh (Some (before_piece (suc r.line) true r.pieces (at + 1))) None)
transition_by at r other = None

-- The state after a byte at an offset. No byte follows the fourth line.
unfoldable pub transition : ℕ → State → ℕ → Option State
transition at r b = cond (ltb r.line 4) (transition_by at r (kind_of b)) None

-- All bytes were read, or the byte at an offset cannot follow.
pub data RunResult : Type 0 where
  reached : State → RunResult
  stopped : ℕ → State → RunResult

-- The next step, if the byte can follow.
abbrev pub onward : Option State → RunResult → (State → RunResult) → RunResult
onward None x f = x
onward (Some r) x f = f r

-- The automaton on bytes that start at an offset.
unfoldable pub run : ℕ → State → List ℕ → RunResult
run at r [] = reached r
run at r (b ∷ s) = onward (transition at r b) (stopped at r) (λ (q : State). run (at + 1) q s)

-- The pieces that were closed before the end or before the byte that cannot follow.
unfoldable pub pieces_of : RunResult → List Piece
pieces_of (reached r) = r.pieces
pieces_of (stopped n r) = r.pieces

-- The start of the first range whose end is below its start.
unfoldable pub first_descending : List Piece → Option ℕ
first_descending [] = None
first_descending (x ∷ xs) = cond (ltb x.last.value x.first.value) (Some x.first.at) (first_descending xs)

-- The offset of the first code point that is no variation entry.
unfoldable pub first_non_entry : List Piece → Option ℕ
first_non_entry [] = None
first_non_entry (x ∷ xs) =
    cond (has_variation_sequence x.first.value)
    (cond (has_variation_sequence x.last.value) (first_non_entry xs) (Some x.last.at)) (Some x.first.at)

-- The result of reading: a policy, or refusal 11 or 12 with its offset.
pub data SheetReading : Type 0 where
  is_read : Policy → SheetReading
  not_a_sheet : ℕ → SheetReading
  not_an_entry : ℕ → SheetReading

-- Refusal 11 for a range that runs down, or another result.
abbrev pub descending_or : Option ℕ → SheetReading → SheetReading
descending_or (Some n) x = not_a_sheet n
descending_or None x = x

-- Refusal 12 for a code point that is no entry, or another result.
abbrev pub non_entry_or : Option ℕ → SheetReading → SheetReading
non_entry_or (Some n) x = not_an_entry n
non_entry_or None x = x

-- The result for the pieces of a sheet in which no range runs down.
abbrev pub read_pieces : List Piece → SheetReading
read_pieces xs = non_entry_or (first_non_entry xs) (is_read (sheet_policy xs))

-- The result by the end of the automaton. The number is the length of the sheet: "or the length if the sheet merely breaks off".
unfoldable pub answer_of : ℕ → RunResult → SheetReading
answer_of len (stopped n r) = descending_or (first_descending r.pieces) (not_a_sheet n)
answer_of len (reached r) = descending_or (first_descending r.pieces) (cond (eqb r.line 4) (read_pieces r.pieces) (not_a_sheet len))

-- Reading bytes.
unfoldable pub read_sheet : List ℕ → SheetReading
read_sheet s = answer_of (length s) (run 0 start s)
