-- What the code keeps of the reader's state (crate policy_sheet, specs/Reader.antt). Of the closed pieces it keeps two offsets only: of the
-- first range that runs down, and of the first code point that is no variation entry.
use Rattle.std.specs.Prelude.{
  ◌≡◌,
  Bool,
  true,
  false,
  cond,
  ◌&&◌,
  ◌||◌,
  List,
  ℕ,
  ◌^◌,
  ◌≤◌,
  ◌<◌,
  eqb,
  length,
  Some,
  None,
  Option,
  Ok,
  Err,
  Result,
  ⊤,
}
use Rattle.policy_key_set.specs.Sets.{Holds}
use Rattle.policy.specs.declared.Policy.{Policy}
use Rattle.policy_sheet.specs.Meaning.{in_set}
use Rattle.policy_sheet.specs.Grammar.{Piece, Point, allowed_digits}
use Rattle.policy_sheet.specs.Reader.{RunResult, State, first_descending, first_non_entry, pieces_of, reached, run, start, stopped}
use Rattle.base.specs.Refusals.{After, unwritten}
use Rattle.base.specs.declared.Refusal.{Refusal}
use Rattle.base.specs.declared.Refusal.TheVariants.{NotASheet, NotAnEntry}
use Rattle.policy.specs.PolicyBytes.{policy_bytes}
use Rattle.policy_sheet.specs.Calls.{write_result}
use Rattle.sheet_reading.specs.declared.cursor.Cursor.{Cursor}
use Rattle.sheet_reading.specs.declared.cursor.RangeStart.{RangeStart}

-- An offset, if there is one.
unfoldable pub found : Bool → ℕ → Option ℕ
found true n = Some n
found false n = None

-- The first of two offsets, if it is there.
unfoldable pub or_found : Option ℕ → Option ℕ → Option ℕ
or_found (Some n) b = Some n
or_found None b = b

-- The first code point of a range, if there was a dash.
unfoldable pub first_point : Option RangeStart → Option Point
first_point (Some p) = Some (record { at = p.at; value = p.value })
first_point None = None

-- The cursor tracks a state. A number has at most six digits, so its value is small.
pub record Tracks (c : Cursor) (r : State) : Type 0 where
  pub line : c.line ≡ r.line
  pub fresh : c.fresh ≡ r.fresh
  pub first : first_point c.first ≡ r.first
  pub from : c.from ≡ r.from
  pub count : c.count ≡ r.count
  pub value : c.value ≡ r.value
  pub descending : c.descending ≡ first_descending r.pieces
  pub stray : c.stray ≡ first_non_entry r.pieces
  pub digits : r.count ≤ 6
  pub small : r.value < 16 ^ r.count

-- The code takes a byte as the automaton does: the cursor tracks the next state, or there is none.
pub data StepResult : Option State → Option Cursor → Type 0 where
  on : {c : Cursor} {q : State} → Tracks c q → StepResult (Some q) (Some c)
  stop : StepResult None None

-- The result of reading without the policy.
abbrev pub check_non_entry : Option ℕ → Result ⊤ Refusal
check_non_entry (Some n) = Err (NotAnEntry n)
check_non_entry None = Ok tt

abbrev pub check_descending : Option ℕ → Result ⊤ Refusal → Result ⊤ Refusal
check_descending (Some n) x = Err (NotASheet n)
check_descending None x = x

unfoldable pub check_of : ℕ → RunResult → Result ⊤ Refusal
check_of len (stopped n r) = check_descending (first_descending r.pieces) (Err (NotASheet n))
check_of len (reached r) = check_descending (first_descending r.pieces)
    (cond (eqb r.line 4) (check_non_entry (first_non_entry r.pieces)) (Err (NotASheet len)))

-- The check of a sheet.
unfoldable pub check_sheet : List ℕ → Result ⊤ Refusal
check_sheet s = check_of (length s) (run 0 start s)

-- The pieces that were read.
unfoldable pub pieces_read : List ℕ → List Piece
pieces_read s = pieces_of (run 0 start s)

-- The outcome of reading, from the check and the policy.
abbrev pub after_check : Result ⊤ Refusal → Policy → List ℕ → After (Result ℕ Refusal) ℕ
after_check (Ok x) p out = write_result (policy_bytes p) out
after_check (Err r) p out = unwritten (Err r) out

-- The sets of a policy hold what the pieces say.
pub record SetsHold (xs : List Piece) (p : Policy) : Type 0 where
  pub prefer_bare_set : Holds (in_set xs 0) p.prefer_bare.chars.bits
  pub prefer_bare_keycap_set : Holds (in_set xs 1) p.prefer_bare.keycap_chars.bits
  pub bare_as_text_set : Holds (in_set xs 2) p.bare_as_text.chars.bits
  pub bare_as_text_keycap_set : Holds (in_set xs 3) p.bare_as_text.keycap_chars.bits

-- The piece is in the line, and goes from the code point lo to the code point hi.
pub record Spans (x : Piece) (line lo hi : ℕ) : Type 0 where
  pub line_is : x.line ≡ line
  pub first_is : x.first.value ≡ lo
  pub last_is : x.last.value ≡ hi

-- The byte closes a piece whose last number has the digits.
unfoldable pub closing : ℕ → ℕ → Bool
closing b count = (eqb b 0x2C || eqb b 0x0A) && allowed_digits count
