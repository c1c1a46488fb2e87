-- Document 01's worked texts, and a worked list of calls.
use Rattle.base.specs.declared.Refusal.{Refusal}
use Rattle.std.specs.Prelude.{◌≡◌, List, [], ◌∷◌, ◌++◌, map, ℕ, ◌≤◌, drop, length, Ok, Err, Some, None, Result, Option}
use Rattle.utf8.specs.Rfc3629.{encode_all}
use Rattle.policy.specs.DefaultPolicy.{default_policy}
use Rattle.policy.specs.PolicyBytes.{policy_bytes}
use Rattle.positions.specs.Positions.{units}
use Rattle.scanner.specs.Spans.{scan}
use Rattle.scanner.specs.declared.ScanItem.{ScanItem}
use Rattle.analysis.specs.Counts.{eight, empty}
use Rattle.analysis.specs.ItemAt.{replace_at, replace_by_default}
use Rattle.analysis.specs.declared.types.NonCanonicality.{NonCanonicality}
use Rattle.formatter.specs.Book.{book_after, first_book, open_findings, place}
use Rattle.formatter.specs.Demand3.{Accepted, ListClaim}
use Rattle.formatter.specs.Findings.{text_totals}
use Rattle.formatter.specs.Format.{format}
use Rattle.formatter.specs.List.{list}
use Rattle.formatter.specs.Mend.{Call, mend, outcomes, text_after}
use Rattle.base.specs.Refusals.{After}
use Rattle.formatter.specs.Intake.{list_limit}
use Rattle.analysis.specs.declared.types.Finding.{Finding}
use Rattle.base.specs.declared.Refusal.TheVariants.{
  BadDecision,
  NoFinding,
  NotWellFormed,
  OutputTooShort,
  TableTooShort,
  WrongNumberOfDecisions,
}

-- ---- worked texts

-- "Worked texts, default policy": the bytes of the default policy.
unfoldable pub the_default : List ℕ
the_default = policy_bytes default_policy

-- The output buffer of the calls on the worked texts.
abbrev pub room : List ℕ
room = 7 ∷ 7 ∷ 7 ∷ 7 ∷ 7 ∷ 7 ∷ 7 ∷ 7 ∷ 7 ∷ 7 ∷ 7 ∷ 7 ∷ []

-- A row of a table, by its start, its end, its counts, and its start and end in characters and in UTF-16 units.
abbrev pub finding : ℕ → ℕ → NonCanonicality → ℕ → ℕ → ℕ → ℕ → Finding
finding start end n a b c d = record {
  start = start;
  end = end;
  counts = n;
  char_start = a;
  char_end = b;
  unit_start = c;
  unit_end = d;
}

-- A row of the tables before a call.
abbrev pub blank : Finding
blank = finding 0 0 empty 0 0 0 0

-- A worked text: its characters, the starts and ends of its items, the outcomes of formatting it and of listing its findings, and its eight
-- totals.
pub record WorkedText : Type 0 where
  pub text : List ℕ
  pub items : List (ℕ × ℕ)
  pub formatting : After (Result (Option ℕ) Refusal) ℕ
  pub listing : After (Result ℕ Refusal) Finding
  pub totals : NonCanonicality

-- What the definitions give for a text of these characters.
unfoldable pub worked_text : List ℕ → WorkedText
worked_text t = record {
  text = t;
  items = map (λ (x : ScanItem). (x.start, x.end)) (scan (encode_all t));
  formatting = format (encode_all t) the_default room;
  listing = list (encode_all t) the_default (blank ∷ blank ∷ []);
  totals = text_totals (encode_all t) the_default;
}

-- The worked text `t` is one item that ends at the offset `end`. It is a finding with the counts `n`, and formatting makes `r` of it.
abbrev pub becomes : List ℕ → ℕ → List ℕ → NonCanonicality → WorkedText
becomes t end r n = record {
  text = t;
  items = (0, end) ∷ [];
  formatting = record { answer = Ok (Some (length (encode_all r))); buffer = encode_all r ++ drop (length (encode_all r)) room };
  listing = record { answer = Ok 1; buffer = finding 0 end n 0 (length t) 0 (units t) ∷ blank ∷ [] };
  totals = n;
}

-- The worked text `t` has items with these starts and ends, and formatting does not change it.
abbrev pub stays : List ℕ → List (ℕ × ℕ) → WorkedText
stays t spans = record {
  text = t;
  items = spans;
  formatting = record { answer = Ok None; buffer = room };
  listing = record { answer = Ok 0; buffer = blank ∷ blank ∷ [] };
  totals = empty;
}

-- The starred texts 1 to 12, by document 01's numbers.
unfoldable pub worked_table : List WorkedText
worked_table =
    -- 1
    stays [] []
    -- 2
    ∷ becomes (0x31 ∷ 0xFE0E ∷ []) 4 (0x31 ∷ []) (eight 0 0 0 0 0 0 1 0)
    -- 3
    ∷ becomes (0x31 ∷ 0x20E3 ∷ []) 4 (0x31 ∷ 0xFE0E ∷ 0x20E3 ∷ []) (eight 0 0 0 0 0 0 0 1)
    -- 4
    ∷ becomes (0x231A ∷ 0xFE0F ∷ []) 6 (0x231A ∷ []) (eight 0 0 0 0 0 0 1 0)
    -- 5
    ∷ becomes (0x231A ∷ 0xFE0E ∷ 0xFE0F ∷ []) 9 (0x231A ∷ 0xFE0E ∷ []) (eight 1 0 0 0 0 0 0 0)
    -- 6
    ∷ becomes (0x231A ∷ 0xFE0F ∷ 0xFE0E ∷ []) 9 (0x231A ∷ []) (eight 1 0 0 0 0 0 1 0)
    -- 7
    ∷ becomes (0x261D ∷ 0xFE0F ∷ 0x1F3FB ∷ []) 10 (0x261D ∷ 0x1F3FB ∷ []) (eight 0 1 0 0 0 0 0 0)
    -- 8
    ∷ stays (0x261D ∷ 0xFE0E ∷ 0x1F3FB ∷ []) ((0, 10) ∷ [])
    -- 9
    ∷ becomes (0x2764 ∷ 0xFE0F ∷ 0x1F3FB ∷ []) 10 (0x2764 ∷ 0x1F3FB ∷ []) (eight 0 0 1 0 0 0 0 0)
    -- 10
    ∷ becomes (0x2764 ∷ 0xFE0E ∷ 0xE0061 ∷ []) 10 (0x2764 ∷ 0xFE0F ∷ 0xE0061 ∷ []) (eight 0 0 0 1 1 0 0 0)
    -- 11
    ∷ becomes (0x1F1E6 ∷ 0xFE0F ∷ 0x1F1E7 ∷ []) 11 (0x1F1E6 ∷ 0x1F1E7 ∷ []) (eight 1 0 0 0 0 0 0 0)
    -- 12
    ∷ stays (0x231A ∷ 0x200D ∷ 0x200D ∷ 0x231A ∷ []) ((0, 9) ∷ (9, 12) ∷ [])
    ∷ []

-- "The starred ones, as one table of the definitions under one theorem": the definitions of items and of the calls give what the table
-- says. Programs check texts 13 and 14.
unfoldable pub WorkedTexts : Type 0
WorkedTexts = map worked_text (map (λ (w : WorkedText). w.text) worked_table) ≡ worked_table

-- ---- the example of "Programs"

-- "Input bytes 31 EF B8 8E 20 E2 9D A4"
abbrev pub example_bytes : List ℕ
example_bytes = 0x31 ∷ 0xEF ∷ 0xB8 ∷ 0x8E ∷ 0x20 ∷ 0xE2 ∷ 0x9D ∷ 0xA4 ∷ []

-- The two rows of the example.
abbrev pub example_rows : List Finding
example_rows = finding 0 4 (eight 0 0 0 0 0 0 1 0) 0 2 0 2 ∷ finding 5 8 (eight 0 0 0 0 0 0 0 1) 3 4 3 4 ∷ []

-- Listing, formatting and mending the example give its two rows, its totals and its formatted and mended texts. The calls that write a
-- replacement alone: one at 0; one at 1, inside the first item, where no finding starts; one at 5, with a decision and by default. The
-- example with a further byte that begins no character is refused.
unfoldable pub ExampleCalls : Type 0
ExampleCalls =
    (list example_bytes the_default (blank ∷ blank ∷ blank ∷ []) ≡ record { answer = Ok 2; buffer = example_rows ++ blank ∷ [] })
    × (list example_bytes the_default (blank ∷ []) ≡ record { answer = Err (TableTooShort 2); buffer = blank ∷ [] })
    × (text_totals example_bytes the_default ≡ eight 0 0 0 0 0 0 1 1)
    × (format example_bytes the_default room
    ≡ record { answer = Ok (Some 8); buffer = 0x31 ∷ 0x20 ∷ 0xE2 ∷ 0x9D ∷ 0xA4 ∷ 0xEF ∷ 0xB8 ∷ 0x8E ∷ 7 ∷ 7 ∷ 7 ∷ 7 ∷ [] })
    × (mend example_bytes the_default 5 (1 ∷ []) room
    ≡ record { answer = Ok 11; buffer = 0x31 ∷ 0xEF ∷ 0xB8 ∷ 0x8E ∷ 0x20 ∷ 0xE2 ∷ 0x9D ∷ 0xA4 ∷ 0xEF ∷ 0xB8 ∷ 0x8F ∷ 7 ∷ [] })
    × (replace_at default_policy example_bytes 0 [] room ≡ record { answer = Ok 1; buffer = 0x31 ∷ drop 1 room })
    × (replace_at default_policy example_bytes 1 [] room ≡ record { answer = Err NoFinding; buffer = room })
    × (replace_at default_policy example_bytes 5 (1 ∷ []) room
    ≡ record { answer = Ok 6; buffer = 0xE2 ∷ 0x9D ∷ 0xA4 ∷ 0xEF ∷ 0xB8 ∷ 0x8F ∷ drop 6 room })
    × (replace_by_default default_policy example_bytes 5 room
    ≡ record { answer = Ok 6; buffer = 0xE2 ∷ 0x9D ∷ 0xA4 ∷ 0xEF ∷ 0xB8 ∷ 0x8E ∷ drop 6 room })
    × (replace_by_default default_policy example_bytes 1 room ≡ record { answer = Err NoFinding; buffer = room })
    × (replace_at default_policy (example_bytes ++ 0xFF ∷ []) 0 [] room ≡ record { answer = Err (NotWellFormed 8); buffer = room })
    × (replace_by_default default_policy (example_bytes ++ 0xFF ∷ []) 0 room
    ≡ record { answer = Err (NotWellFormed 8); buffer = room })

-- ---- a worked list

-- A call of a list, by its offset, its decisions and its output.
abbrev pub call : ℕ → List ℕ → List ℕ → Call
call offset decisions out = record { offset = offset; decisions = decisions; out = out }

-- The outcome of a call.
abbrev pub leaves : Result ℕ Refusal → List ℕ → After (Result ℕ Refusal) ℕ
leaves a out = record { answer = a; buffer = out }

-- The bytes of FE0F 2764: a finding at 0, and one at 3 that wants a decision.
abbrev pub two_findings : List ℕ
two_findings = 0xEF ∷ 0xB8 ∷ 0x8F ∷ 0xE2 ∷ 0x9D ∷ 0xA4 ∷ []

-- An output of six bytes.
abbrev pub six : List ℕ
six = 9 ∷ 9 ∷ 9 ∷ 9 ∷ 9 ∷ 9 ∷ []

-- Seven calls. Four are refused: no finding at the offset, one decision too few, a decision byte of 2, no room. The fifth mends the first
-- finding, at 0. The sixth mends the second, which is now at 0 too. The seventh is refused, since that one is mended.
unfoldable pub worked_calls : List Call
worked_calls =
    call 1 [] six
    ∷ call 3 [] six
    ∷ call 3 (2 ∷ []) six
    ∷ call 3 (0 ∷ []) six
    ∷ call 0 [] six
    ∷ call 0 (0 ∷ []) six
    ∷ call 0 (0 ∷ []) six
    ∷ []

-- The outcome of each call of this list, the text after it, and the places of the open findings: 0 and 3 at first, 0 once the first finding
-- is mended, and none at the end.
unfoldable pub WorkedList : Type 0
WorkedList =
    (outcomes two_findings the_default worked_calls
    ≡ leaves (Err NoFinding) six
    ∷ leaves (Err (WrongNumberOfDecisions 1)) six
    ∷ leaves (Err (BadDecision 0)) six
    ∷ leaves (Err (OutputTooShort 9)) six
    ∷ leaves (Ok 3) (0xE2 ∷ 0x9D ∷ 0xA4 ∷ 9 ∷ 9 ∷ 9 ∷ [])
    ∷ leaves (Ok 6) (0xE2 ∷ 0x9D ∷ 0xA4 ∷ 0xEF ∷ 0xB8 ∷ 0x8E ∷ [])
    ∷ leaves (Err NoFinding) six
    ∷ [])
    × (text_after two_findings the_default worked_calls ≡ 0xE2 ∷ 0x9D ∷ 0xA4 ∷ 0xEF ∷ 0xB8 ∷ 0x8E ∷ [])
    × (map place (open_findings the_default (first_book the_default two_findings)) ≡ 0 ∷ 3 ∷ [])
    × (map place (open_findings the_default (book_after the_default (first_book the_default two_findings) (call 0 [] six ∷ []))) ≡ 0 ∷ [])
    × (map place (open_findings the_default (book_after the_default (first_book the_default two_findings) worked_calls)) ≡ [])

-- The claim on a list holds for this list, and so do its premises: the claim is not about nothing.
unfoldable pub WorkedListClaimed : Type 0
WorkedListClaimed = Accepted the_default two_findings × (length two_findings ≤ list_limit) × ListClaim the_default two_findings worked_calls
