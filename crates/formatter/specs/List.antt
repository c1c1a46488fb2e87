-- Listing: the whole outcome of each call, `list` and `list_bytes` for findings and `list_items` for items (document 01, "Counts and
-- finding", "Turned back").
use Rattle.std.specs.Prelude.{cond, List, [], ◌∷◌, ◌++◌, ℕ, leb, length, Ok, Err, Result}
use Rattle.base.specs.Refusals.{After, unwritten, or_else, written}
use Rattle.base.specs.Tables.{fill_table}
use Rattle.base.specs.declared.Refusal.{Refusal}
use Rattle.base.specs.declared.Refusal.TheVariants.{TableTooShort}
use Rattle.scanner.specs.Spans.{kind_number, scan}
use Rattle.scanner.specs.TextCheck.{text_refusal}
use Rattle.scanner.specs.declared.ScanItem.{ScanItem}
use Rattle.analysis.specs.declared.types.Finding.{Finding}
use Rattle.analysis.specs.declared.types.NonCanonicality.{NonCanonicality}
use Rattle.formatter.specs.Findings.{listed}
use Rattle.formatter.specs.Intake.{intake_refusal}

-- "The findings are listed in text order into a table lent by the caller", with refusals 1, 2, 3 and 7 in this order.
unfoldable pub list : List ℕ → List ℕ → List Finding → After (Result ℕ Refusal) Finding
list text policy table =
    let rows = listed text policy in
    or_else (intake_refusal text policy) (λ (r : Refusal). unwritten (Err r) table)
    (cond (leb (length rows) (length table)) (written (Ok (length rows)) rows table)
    (unwritten (Err (TableTooShort (length rows))) table))

-- ---- findings

-- The eight counts, in document 01's order.
abbrev pub count_numbers : NonCanonicality → List ℕ
count_numbers n =
    n.unsanctioned_selectors
    ∷ n.modifier_defective_selectors
    ∷ n.additional_defective_selectors
    ∷ n.tag_conflicting_selectors
    ∷ n.tag_forced_presentations
    ∷ n.tag_redundant_selectors
    ∷ n.policy_redundant_selectors
    ∷ n.presentation_decisions
    ∷ []

-- "A listed finding is its start, its end and the eight counts"; "In a listed finding the four new numbers follow the counts, characters
-- first": a row of fourteen numbers.
unfoldable pub row_numbers : Finding → List ℕ
row_numbers f =
    f.start ∷ f.end
    ∷ (count_numbers f.counts ++ f.char_start ∷ f.char_end ∷ f.unit_start ∷ f.unit_end ∷ [])

-- The number of bytes of a row: eight for each of its fourteen numbers.
abbrev pub row_bytes : ℕ
row_bytes = 112

-- The call on a table of bytes: the rows of `list` as bytes, and its refusals in their order. The theorem `ListedAsBytes` of
-- specs/Theorems.antt says that `list` and `list_bytes` agree.
unfoldable pub list_bytes : List ℕ → List ℕ → List ℕ → After (Result ℕ Refusal) ℕ
list_bytes text policy table =
    or_else (intake_refusal text policy) (λ (r : Refusal). unwritten (Err r) table)
    (fill_table row_numbers row_bytes (listed text policy) table)

-- ---- items

-- A listed item is its start, its end, its kind, whether its tags are complete, and its start and end in characters and in UTF-16 units: a
-- row of eight numbers.
unfoldable pub item_numbers : ScanItem → List ℕ
item_numbers x =
    x.start ∷ x.end ∷ kind_number x.kind ∷ cond x.tags_complete 1 0
    ∷ x.char_start ∷ x.char_end ∷ x.unit_start ∷ x.unit_end ∷ []

-- The number of bytes of an item's row: eight for each of its eight numbers.
abbrev pub item_bytes : ℕ
item_bytes = 64

-- Listing the items of a text into a table of bytes, with refusals 1, 3 and 7 in this order. The crate evfmt has no such call.
unfoldable pub list_items : List ℕ → List ℕ → After (Result ℕ Refusal) ℕ
list_items text table =
    or_else (text_refusal text) (λ (r : Refusal). unwritten (Err r) table) (fill_table item_numbers item_bytes (scan text) table)
