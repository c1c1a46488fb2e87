-- The claims on policy sheets. proofs/Claims.antt proves each statement, under the same name in snake case (`FewestDigits` with `_lem`,
-- since a definition has the name).
use Rattle.base.specs.Answers.{answer_row}
use Rattle.std.specs.Prelude.{◌≡◌, ◌↔◌, Bool, true, false, List, [], ◌∷◌, ℕ, suc, ◌<◌, ◌≤◌, get_or, length, take, Ok, Err, Some}
use Rattle.base.specs.Refusals.{unwritten, written}
use Rattle.base.specs.Words.{all_bytes}
use Rattle.base.specs.declared.Refusal.{Refusal}
use Rattle.base.specs.declared.Refusal.TheVariants.{NotASheet, NotAnEntry, OutputTooShort, TextTooLong}
use Rattle.emoji.specs.UnicodeData.{variation_entries}
use Rattle.policy_key_set.specs.Sets.{member}
use Rattle.policy.specs.PolicyBytes.{PolicyValue, is_policy, no_unused_bits, policy_bytes, policy_of, policy_refusal}
use Rattle.policy.specs.declared.Policy.{Policy}
use Rattle.policy_sheet.specs.Calls.{read_call, write_call}
use Rattle.policy_sheet.specs.Grammar.{Begins, CodePoint, DescendingRange, IsSheet, Piece, Sheet}
use Rattle.policy_sheet.specs.Meaning.{AllEntries, FirstNonEntry, Means, Rising}
use Rattle.policy_sheet.specs.Reader.{is_read, not_a_sheet, not_an_entry, read_sheet}
use Rattle.policy_sheet.specs.Writer.{Run, fewest_digits, point_text, runs_of, write_sheet}

-- A sheet has one reading: its bytes determine its pieces.
unfoldable pub OnlyReading : Type 0
OnlyReading = (s : List ℕ) (xs ys : List Piece) → Sheet s xs → Sheet s ys → xs ≡ ys

-- Pieces mean at most one policy.
unfoldable pub OnlyMeaning : Type 0
OnlyMeaning = (xs : List Piece) (p q : Policy) → Means xs p → Means xs q → p ≡ q

-- The reader accepts exactly the sheets in which no range runs down and every code point is a variation entry. It gives the policy that the
-- pieces mean.
unfoldable pub SheetsRead : Type 0
SheetsRead =
    (s : List ℕ) (p : Policy)
    → (read_sheet s ≡ is_read p) ↔ ((xs : List Piece) × Sheet s xs × Rising xs × AllEntries xs × Means xs p)

-- A fault of bytes at an offset. "11, bytes that don't follow this, with the offset of the first byte such that no sheet begins with the
-- bytes up to and including it, or the length if the sheet merely breaks off (a range running down passes this test)"; "A range whose end
-- is below its start is 11, at its start, if a comma or 0A closes it".
pub data Fault (s : List ℕ) : ℕ → Type 0 where
  wrong_byte : {n : ℕ} → n < length s → Begins (take n s) → (Begins (take (suc n) s) → ⊥) → Fault s n
  breaks_off : Begins s → (IsSheet s → ⊥) → Fault s (length s)
  descending_range : {n : ℕ} → DescendingRange s n → Fault s n

-- ".. of two such errors the smaller offset is given": refusal 11 gives the smallest offset of a fault.
unfoldable pub FirstFault : Type 0
FirstFault = (s : List ℕ) (n : ℕ) → (read_sheet s ≡ not_a_sheet n) ↔ (Fault s n × ((m : ℕ) → Fault s m → n ≤ m))

-- "12, the first single code point or either end of a range that is no variation entry, with its offset, tested after the whole sheet's
-- form".
unfoldable pub NonEntryRefused : Type 0
NonEntryRefused =
    (s : List ℕ) (n : ℕ) → (read_sheet s ≡ not_an_entry n) ↔ ((xs : List Piece) × Sheet s xs × Rising xs × FirstNonEntry xs n)

-- ".. a written sheet reads back to its policy".
unfoldable pub ReadsBack : Type 0
ReadsBack = (p : Policy) → PolicyValue p → no_unused_bits p ≡ true → read_sheet (write_sheet p) ≡ is_read p

-- "Two policies are equal exactly when their written sheets are".
unfoldable pub SheetsDeterminePolicies : Type 0
SheetsDeterminePolicies =
    (p q : Policy) → PolicyValue p → PolicyValue q → no_unused_bits p ≡ true → no_unused_bits q ≡ true
    → (p ≡ q) ↔ (write_sheet p ≡ write_sheet q)

-- ---- the calls

-- The claim on reading, for all bytes. The tests are made in the order 1, 11, 12, 8, and a refusal leaves the output as it was. A policy
-- has 200 bytes. No value of an answer is above the limit of a text.
pub record ReadCall (sheet out : List ℕ) : Type 0 where
  pub long : 16777217 ≤ length sheet → read_call sheet out ≡ unwritten (Err TextTooLong) out
  pub no_sheet : length sheet ≤ 16777216 → (n : ℕ) → read_sheet sheet ≡ not_a_sheet n
      → read_call sheet out ≡ unwritten (Err (NotASheet n)) out
  pub no_entry : length sheet ≤ 16777216 → (n : ℕ) → read_sheet sheet ≡ not_an_entry n
      → read_call sheet out ≡ unwritten (Err (NotAnEntry n)) out
  pub short : length sheet ≤ 16777216 → (p : Policy) → read_sheet sheet ≡ is_read p → length out < 200
      → read_call sheet out ≡ unwritten (Err (OutputTooShort 200)) out
  pub done : length sheet ≤ 16777216 → (p : Policy) → read_sheet sheet ≡ is_read p → 200 ≤ length out
      → read_call sheet out ≡ written (Ok 200) (policy_bytes p) out
  pub small : (answer_row (read_call sheet out).answer).value ≤ 16777216

unfoldable pub EveryReadCall : Type 0
EveryReadCall = (sheet out : List ℕ) → ReadCall sheet out

-- The claim on writing, for all bytes. The policy is tested first, then the room, and a refusal leaves the output as it was. A written
-- sheet has at most 9,916 bytes. ".. a written sheet reads back to its policy": reading it gives the bytes of the policy.
pub record WriteCall (policy out : List ℕ) : Type 0 where
  pub no_policy : (r : Refusal) → policy_refusal policy ≡ Some r → write_call policy out ≡ unwritten (Err r) out
  pub short : is_policy policy ≡ true → length out < length (write_sheet (policy_of policy))
      → write_call policy out ≡ unwritten (Err (OutputTooShort (length (write_sheet (policy_of policy))))) out
  pub done : is_policy policy ≡ true → length (write_sheet (policy_of policy)) ≤ length out
      → write_call policy out ≡ written (Ok (length (write_sheet (policy_of policy)))) (write_sheet (policy_of policy)) out
  pub few : length (write_sheet (policy_of policy)) ≤ 9916
  pub small : (answer_row (write_call policy out).answer).value ≤ 9916
  pub reads_back : all_bytes policy ≡ true → is_policy policy ≡ true → (o : List ℕ) → 200 ≤ length o
      → read_call (write_sheet (policy_of policy)) o ≡ written (Ok 200) policy o

unfoldable pub EveryWriteCall : Type 0
EveryWriteCall = (policy out : List ℕ) → WriteCall policy out

-- ---- the form of a written sheet

-- The maximal runs of neighbouring entries that pass a test, ascending, from index n of the table on. Either no entry from n on passes, or
-- there is a first run: no entry before it passes, all entries of it pass, and the entry after it does not.
pub data MaximalRuns (p : ℕ → Bool) (cs : List ℕ) : ℕ → List Run → Type 0 where
  no_more : {n : ℕ} → ((i : ℕ) → n ≤ i → i < length cs → p i ≡ false) → MaximalRuns p cs n []
  run_and : {n : ℕ} {rs : List Run} (from to : ℕ) → n ≤ from → from ≤ to → to < length cs
      → ((i : ℕ) → n ≤ i → i < from → p i ≡ false)
      → ((i : ℕ) → from ≤ i → i ≤ to → p i ≡ true)
      → (suc to < length cs → p (suc to) ≡ false)
      → MaximalRuns p cs (suc to) rs
      → MaximalRuns p cs n (record { first = get_or cs from 0; last = get_or cs to 0 } ∷ rs)

-- "ascending, .. and neighbouring entries of the variation table joined into one range": the runs of which a line is written.
unfoldable pub WrittenRuns : Type 0
WrittenRuns = (ws : List ℕ) → MaximalRuns (λ (i : ℕ). member i ws) variation_entries 0 (runs_of ws)

-- "each code point in the fewest digits allowed": no code point of that value has fewer digits.
unfoldable pub FewestDigits : Type 0
FewestDigits = (c : ℕ) (s : List ℕ) → CodePoint s c → (fewest_digits c ≤ length s) × CodePoint (point_text c) c

-- Sheets with the offsets of refusals 11 and 12.
unfoldable pub SheetExamples : Type 0
SheetExamples =
    -- three digits: 276,
    (read_sheet (0x32 ∷ 0x37 ∷ 0x36 ∷ 0x2C ∷ []) ≡ not_a_sheet 3)
    -- a seventh digit: 1234567
    × (read_sheet (0x31 ∷ 0x32 ∷ 0x33 ∷ 0x34 ∷ 0x35 ∷ 0x36 ∷ 0x37 ∷ []) ≡ not_a_sheet 6)
    -- one digit before a dash: 2-
    × (read_sheet (0x32 ∷ 0x2D ∷ []) ≡ not_a_sheet 1)
    -- no piece after a comma: 30,\n
    × (read_sheet (0x33 ∷ 0x30 ∷ 0x2C ∷ 0x0A ∷ []) ≡ not_a_sheet 3)
    -- no piece before a comma: ,30
    × (read_sheet (0x2C ∷ 0x33 ∷ 0x30 ∷ []) ≡ not_a_sheet 0)
    -- a lower-case digit: a9
    × (read_sheet (0x61 ∷ 0x39 ∷ []) ≡ not_a_sheet 0)
    -- a fifth line: \n\n\n\n3
    × (read_sheet (0x0A ∷ 0x0A ∷ 0x0A ∷ 0x0A ∷ 0x33 ∷ []) ≡ not_a_sheet 4)
    -- three lines: 30\n\n\n
    × (read_sheet (0x33 ∷ 0x30 ∷ 0x0A ∷ 0x0A ∷ 0x0A ∷ []) ≡ not_a_sheet 5)
    -- a second dash: 30-31-
    × (read_sheet (0x33 ∷ 0x30 ∷ 0x2D ∷ 0x33 ∷ 0x31 ∷ 0x2D ∷ []) ≡ not_a_sheet 5)
    -- a range running down, closed: 39-30,
    × (read_sheet (0x33 ∷ 0x39 ∷ 0x2D ∷ 0x33 ∷ 0x30 ∷ 0x2C ∷ []) ≡ not_a_sheet 0)
    -- the same, not closed: 39-30
    × (read_sheet (0x33 ∷ 0x39 ∷ 0x2D ∷ 0x33 ∷ 0x30 ∷ []) ≡ not_a_sheet 5)
    -- the same before a wrong byte, which does not close it: 39-30x
    × (read_sheet (0x33 ∷ 0x39 ∷ 0x2D ∷ 0x33 ∷ 0x30 ∷ 0x78 ∷ []) ≡ not_a_sheet 5)
    -- the same, closed, with a wrong byte after it: 39-30,x
    × (read_sheet (0x33 ∷ 0x39 ∷ 0x2D ∷ 0x33 ∷ 0x30 ∷ 0x2C ∷ 0x78 ∷ []) ≡ not_a_sheet 0)
    -- no entry: FFFFFF\n\n\n\n
    × (read_sheet (0x46 ∷ 0x46 ∷ 0x46 ∷ 0x46 ∷ 0x46 ∷ 0x46 ∷ 0x0A ∷ 0x0A ∷ 0x0A ∷ 0x0A ∷ []) ≡ not_an_entry 0)
    -- a range's end that is no entry: 30-FF\n\n\n\n
    × (read_sheet (0x33 ∷ 0x30 ∷ 0x2D ∷ 0x46 ∷ 0x46 ∷ 0x0A ∷ 0x0A ∷ 0x0A ∷ 0x0A ∷ []) ≡ not_an_entry 3)
    -- no entry after a comma: 30,FF\n\n\n\n
    × (read_sheet (0x33 ∷ 0x30 ∷ 0x2C ∷ 0x46 ∷ 0x46 ∷ 0x0A ∷ 0x0A ∷ 0x0A ∷ 0x0A ∷ []) ≡ not_an_entry 3)
    -- no entry in a sheet that breaks off: FF\n\n\n
    × (read_sheet (0x46 ∷ 0x46 ∷ 0x0A ∷ 0x0A ∷ 0x0A ∷ []) ≡ not_a_sheet 5)

-- The policy of a sheet whose first line has pieces out of order that overlap, and a range over code points that are no entries:
-- A9,39-A9,30-39\n\n23\n\n
unfoldable pub ReadingExample : Type 0
ReadingExample =
    read_sheet
    (0x41 ∷ 0x39 ∷ 0x2C ∷ 0x33 ∷ 0x39 ∷ 0x2D ∷ 0x41 ∷ 0x39 ∷ 0x2C ∷ 0x33 ∷ 0x30 ∷ 0x2D ∷ 0x33 ∷ 0x39
    ∷ 0x0A ∷ 0x0A ∷ 0x32 ∷ 0x33 ∷ 0x0A ∷ 0x0A ∷ [])
    ≡ is_read
    (record {
      prefer_bare = record {
        chars = record { bits = 0x1FFC ∷ 0 ∷ 0 ∷ 0 ∷ 0 ∷ 0 ∷ [] };
        keycap_chars = record { bits = 0x0 ∷ 0 ∷ 0 ∷ 0 ∷ 0 ∷ 0 ∷ [] };
      };
      bare_as_text = record {
        chars = record { bits = 0x1 ∷ 0 ∷ 0 ∷ 0 ∷ 0 ∷ 0 ∷ [] };
        keycap_chars = record { bits = 0x0 ∷ 0 ∷ 0 ∷ 0 ∷ 0 ∷ 0 ∷ [] };
      };
    })

-- A written sheet. The entries 30 to 39 and A9 are neighbours in the table; 2A is between 23 and 30.
unfoldable pub WritingExample : Type 0
WritingExample =
    write_sheet
    (record {
      prefer_bare = record {
        chars = record { bits = 0x1FFC ∷ 0 ∷ 0 ∷ 0 ∷ 0 ∷ 0 ∷ [] };
        keycap_chars = record { bits = 0x0 ∷ 0 ∷ 0 ∷ 0 ∷ 0 ∷ 0 ∷ [] };
      };
      bare_as_text = record {
        chars = record { bits = 0x1001 ∷ 0 ∷ 0 ∷ 0 ∷ 0 ∷ 0 ∷ [] };
        keycap_chars = record { bits = 0x7 ∷ 0 ∷ 0 ∷ 0 ∷ 0 ∷ 0 ∷ [] };
      };
    })
    ≡ 0x33 ∷ 0x30 ∷ 0x2D ∷ 0x41 ∷ 0x39 ∷ 0x0A ∷ 0x0A ∷ 0x32 ∷ 0x33 ∷ 0x2C ∷ 0x41 ∷ 0x39 ∷ 0x0A ∷ 0x32 ∷ 0x33 ∷ 0x2D ∷ 0x33 ∷ 0x30 ∷ 0x0A
    ∷ []
