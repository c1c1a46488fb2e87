-- What is claimed of formatting, listing and mending. Each statement is proved in proofs/Claims.antt.
use Rattle.std.specs.Prelude.{◌≡◌, ◌↔◌, true, false, List, [], ◌∷◌, ◌++◌, ℕ, ◌+◌, ◌≤◌, ◌<◌, drop, length, take, Ok, Err, Some, None}
use Rattle.base.specs.Refusals.{refusal_table}
use Rattle.base.specs.Tables.{rows_bytes}
use Rattle.base.specs.Words.{bytes_of}
use Rattle.base.specs.declared.Refusal.{Refusal}
use Rattle.base.specs.declared.Refusal.TheVariants.{NotWellFormed, TextTooLong}
use Rattle.utf8.specs.Rfc3629.{WellFormed, chars, encode_all, valid_up_to_of}
use Rattle.positions.specs.Positions.{Boundary}
use Rattle.policy.specs.PolicyBytes.{is_policy, policy_of, policy_refusal}
use Rattle.scanner.specs.Items.{Item}
use Rattle.analysis.specs.CellView.{format_cells, total_cells}
use Rattle.analysis.specs.Findings.{finding_at}
use Rattle.analysis.specs.ItemAt.{replace_at}
use Rattle.analysis.specs.declared.types.Finding.{Finding}
use Rattle.formatter.specs.Demand3.{Accepted, Each, FormattedClaim, ListClaim}
use Rattle.formatter.specs.Filed.{filed_text}
use Rattle.formatter.specs.Findings.{findings, listed, row_in, text_totals}
use Rattle.formatter.specs.Format.{format, formatted}
use Rattle.formatter.specs.List.{list, list_bytes, row_bytes, row_numbers}
use Rattle.formatter.specs.Mend.{Call, mend}
use Rattle.formatter.specs.Intake.{intake_refusal, list_limit}

-- ---- refusals

-- "Tested in this order": the first cause that fits is the refusal. "16,777,216 bytes pass, 16,777,217 don't."
unfoldable pub IntakeInOrder : Type 0
IntakeInOrder =
    (text policy : List ℕ)
    → (16777217 ≤ length text → intake_refusal text policy ≡ Some TextTooLong)
    × ((r : Refusal) → length text ≤ 16777216 → policy_refusal policy ≡ Some r → intake_refusal text policy ≡ Some r)
    × (length text ≤ 16777216 → is_policy policy ≡ true → (WellFormed text → ⊥) → intake_refusal text policy
    ≡ Some (NotWellFormed (valid_up_to_of text)))
    × (Accepted policy text → intake_refusal text policy ≡ None)

-- Each call gives the refusal of the intake before any other, and then leaves its buffer or table as it was.
unfoldable pub IntakeComesFirst : Type 0
IntakeComesFirst =
    (text policy : List ℕ) (r : Refusal) → intake_refusal text policy ≡ Some r
    → ((out : List ℕ) → format text policy out ≡ record { answer = Err r; buffer = out })
    × ((table : List Finding) → list text policy table ≡ record { answer = Err r; buffer = table })
    × ((table : List ℕ) → list_bytes text policy table ≡ record { answer = Err r; buffer = table })
    × ((offset : ℕ) (decisions out : List ℕ) → mend text policy offset decisions out ≡ record { answer = Err r; buffer = out })

-- ---- mending and the replacement alone

-- "Mending .. writes the whole text with that replacement": where both calls succeed, mending writes the bytes before the finding, what
-- `canonical_replacement_with_decisions` writes, and the bytes after the finding.
unfoldable pub MendsByReplacement : Type 0
MendsByReplacement =
    (text policy : List ℕ) (offset : ℕ) (decisions out room : List ℕ) (x : Item) (n m : ℕ)
    → finding_at offset (findings text policy) ≡ Some x
    → (mend text policy offset decisions out).answer ≡ Ok n
    → (replace_at (policy_of policy) text offset decisions room).answer ≡ Ok m
    → take n (mend text policy offset decisions out).buffer
    ≡ take offset text ++ take m (replace_at (policy_of policy) text offset decisions room).buffer
    ++ drop (offset + length (encode_all x.chars)) text

-- Under an accepted policy, mending and `canonical_replacement_with_decisions` give the same refusals 1 to 6.
unfoldable pub MendsTestAlike : Type 0
MendsTestAlike =
    (text policy : List ℕ) (offset : ℕ) (decisions out room : List ℕ) (r : Refusal) → is_policy policy ≡ true → (refusal_table r).number ≤ 6
    → ((mend text policy offset decisions out).answer ≡ Err r)
    ↔ ((replace_at (policy_of policy) text offset decisions room).answer ≡ Err r)

-- ---- listing

-- A finding whose numbers are all different: start 9, end 10, and the counts 1 to 8 in document 01's order.
abbrev pub numbered_finding : Finding
numbered_finding = record {
  start = 9;
  end = 10;
  counts = record {
    unsanctioned_selectors = 1;
    modifier_defective_selectors = 2;
    additional_defective_selectors = 3;
    tag_conflicting_selectors = 4;
    tag_forced_presentations = 5;
    tag_redundant_selectors = 6;
    policy_redundant_selectors = 7;
    presentation_decisions = 8;
  };
  char_start = 11;
  char_end = 12;
  unit_start = 13;
  unit_end = 14;
}

-- A number below 256 as eight bytes, lowest first.
abbrev pub low_byte : ℕ → List ℕ
low_byte n = n ∷ 0 ∷ 0 ∷ 0 ∷ 0 ∷ 0 ∷ 0 ∷ 0 ∷ []

-- "A listed finding is its start, its end and the eight counts", in the order "unsanctioned, modifier-defective, additional-defective,
-- tag-conflicting, tag-forced, tag-redundant, policy-redundant, decisions". "In a listed finding the four new numbers follow the counts,
-- characters first". The statement gives the numbers of `numbered_finding`'s row, and its bytes.
unfoldable pub ColumnsInOrder : Type 0
ColumnsInOrder =
    (row_numbers numbered_finding ≡ 9 ∷ 10 ∷ 1 ∷ 2 ∷ 3 ∷ 4 ∷ 5 ∷ 6 ∷ 7 ∷ 8 ∷ 11 ∷ 12 ∷ 13 ∷ 14 ∷ [])
    × (bytes_of (row_numbers numbered_finding)
    ≡ low_byte 9 ++ low_byte 10 ++ low_byte 1 ++ low_byte 2 ++ low_byte 3 ++ low_byte 4 ++ low_byte 5 ++ low_byte 6 ++ low_byte 7
    ++ low_byte 8
    ++ low_byte 11 ++ low_byte 12 ++ low_byte 13 ++ low_byte 14)

-- A listed finding starts and ends at character boundaries, and its four new numbers are the positions of its start and its end.
pub record ListedAt (text : List ℕ) (f : Finding) : Type 0 where
  pub starts : Boundary text f.start
  pub ends : Boundary text f.end
  pub positions : f ≡ row_in text f.start f.end f.counts

-- "Every item and finding now carries start and end three times: bytes, characters, and UTF-16 units", for all findings of a text.
unfoldable pub FindingsPositioned : Type 0
FindingsPositioned = (text policy : List ℕ) → Each (ListedAt text) (listed text policy)

-- Listing into a table of bytes does the same as listing into a table of rows: if the table has the bytes of some rows, and fewer bytes
-- after them than a row has, it then has the bytes of the rows that `list` leaves, and the bytes after them are the same.
-- `listed-bytes` and `unlisted-bytes` of `ListClaim` say what listing leaves in any table of bytes.
unfoldable pub ListedAsBytes : Type 0
ListedAsBytes =
    (text policy : List ℕ) (table : List Finding) (rest : List ℕ) → length rest < row_bytes
    → list_bytes text policy (rows_bytes row_numbers table ++ rest)
    ≡ record { answer = (list text policy table).answer; buffer = rows_bytes row_numbers (list text policy table).buffer ++ rest }

-- ---- the filed text

-- After formatting an accepted text, the filed text is the formatted text, whether it was changed or not.
unfoldable pub FiledIsFormatted : Type 0
FiledIsFormatted =
    (text policy out : List ℕ) (len : ℕ) → Accepted policy text
    → ((format text policy out).answer ≡ Ok (Some len) → filed_text text (format text policy out).buffer true len
    ≡ formatted text policy)
    × ((format text policy out).answer ≡ Ok None → filed_text text (format text policy out).buffer false len
    ≡ formatted text policy)

-- ---- a list of mending calls, and a formatted text

-- Demand 3, for every accepted text of at most 4,194,304 bytes and every list of calls.
unfoldable pub EveryList : Type 0
EveryList = (policy first : List ℕ) → Accepted policy first → length first ≤ list_limit → (calls : List Call) → ListClaim policy first calls

-- The claim on a formatted text, for every accepted text. It says, among other things, that formatting again changes nothing (`again`).
unfoldable pub EveryFormattedText : Type 0
EveryFormattedText = (policy first : List ℕ) → Accepted policy first → FormattedClaim policy first

-- Formatting a text and adding up its counts can go cell by cell; for each cell only the next cell's character is needed.
unfoldable pub CellByCell : Type 0
CellByCell =
    (text policy : List ℕ)
    → (formatted text policy ≡ encode_all (format_cells (policy_of policy) (chars text)))
    × (text_totals text policy ≡ total_cells (policy_of policy) (chars text))
