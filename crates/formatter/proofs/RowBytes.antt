-- Rows as bytes: their lengths, a table of bytes with or without room for them, and that it agrees with the table of rows.
use Rattle.std.specs.Prelude.{Ok, Err, Result, Option, Some, None}
use mathlib.Core.Path.{◌≡◌, refl, ap, sym, ◌∙◌}
use mathlib.Core.Bool.{Bool, true, false, cond}
use mathlib.Core.List.{List, ◌++◌, append_assoc, map}
use Prim.Native.Nat.{ℕ, ◌/◌, ◌≤◌}
use native.Mathlib.Omega.{arith}
use lib.Dec.{leb}
use lib.ListN.{drop, length, length-append}
use lib.Seq.{drop-append-le}
use borrow.Author.Tests.{leb-true}
use Rattle.base.proofs.TableBytes.{length_rows, rows_append, rows_drop}
use Rattle.base.specs.Tables.{fill_table, rows_bytes}
use Rattle.base.proofs.Numbers.{length_bytes_of_lem}
use Rattle.base.specs.Words.{bytes_of}
use Rattle.base.specs.Refusals.{After, unwritten, or_else, written}
use Rattle.base.specs.declared.Refusal.{Refusal}
use Rattle.base.specs.declared.Refusal.TheVariants.{TableTooShort}
use Rattle.policy.specs.PolicyBytes.{policy_of}
use Rattle.scanner.specs.Spans.{scan}
use Rattle.scanner.specs.TextCheck.{text_refusal}
use Rattle.scanner.specs.declared.ScanItem.{ScanItem}
use Rattle.analysis.specs.declared.types.Finding.{Finding}
use Rattle.formatter.specs.Findings.{finding_row, findings}
use Rattle.formatter.specs.Intake.{intake_refusal}
use Rattle.formatter.specs.List.{item_bytes, item_numbers, list, list_bytes, list_items, row_bytes, row_numbers}
use Rattle.formatter.specs.Theorems.{ListedAsBytes}

-- ---- lengths

pub length_row : (f : Finding) → length (bytes_of (row_numbers f)) ≡ row_bytes
unfolding row_numbers
length_row f = length_bytes_of_lem (row_numbers f)

pub length_item : (x : ScanItem) → length (bytes_of (item_numbers x)) ≡ item_bytes
unfolding item_numbers
length_item x = length_bytes_of_lem (item_numbers x)

-- ---- the call on a table of bytes, after the intake

pub list-passed : (text policy table : List ℕ) → intake_refusal text policy ≡ None
    → fill_table row_numbers row_bytes (map (finding_row (policy_of policy) text) (findings text policy)) table
    ≡ list_bytes text policy table
unfolding list_bytes
list-passed text policy table e =
    sym (ap (λ (o : Option Refusal). or_else o (λ (r : Refusal). unwritten (Err r) table)
    (fill_table row_numbers row_bytes (map (finding_row (policy_of policy) text) (findings text policy)) table)) e)

-- The outcome of listing items, by the refusal of the text.
pub items-by : (text table : List ℕ) {o : Option Refusal} → text_refusal text ≡ o
    → or_else o (λ (r : Refusal). unwritten (Err r) table) (fill_table item_numbers item_bytes (scan text) table)
    ≡ list_items text table
unfolding list_items
items-by text table e =
    sym (ap (λ (o : Option Refusal). or_else o (λ (r : Refusal). unwritten (Err r) table)
    (fill_table item_numbers item_bytes (scan text) table)) e)

-- ---- the table of bytes agrees with the table of rows

-- The outcome of listing into a table of rows, as the outcome for their bytes with further bytes after them.
abbrev as_bytes_and : List ℕ → After (Result ℕ Refusal) Finding → After (Result ℕ Refusal) ℕ
as_bytes_and rest a = record { answer = a.answer; buffer = rows_bytes row_numbers a.buffer ++ rest }

rows_as : (rows table : List Finding) (rest : List ℕ) (b : Bool) → leb (length rows) (length table) ≡ b
    → cond b (written (Ok (length rows)) (rows_bytes row_numbers rows) (rows_bytes row_numbers table ++ rest))
    (unwritten (Err (TableTooShort (length rows))) (rows_bytes row_numbers table ++ rest))
    ≡ as_bytes_and rest (cond b (written (Ok (length rows)) rows table) (unwritten (Err (TableTooShort (length rows))) table))
rows_as rows table rest true e =
    let R = rows_bytes row_numbers rows in
    let T = rows_bytes row_numbers table in
    let l = length_rows row_numbers row_bytes length_row rows in
    let h : length R ≤ length T = omega
    (arith, l, length_rows row_numbers row_bytes length_row table, leb-true (length rows) (length table) e) in
    let w : R ++ drop (length R) (T ++ rest) ≡ rows_bytes row_numbers (rows ++ drop (length rows) table) ++ rest =
    ap (λ (l : List ℕ). R ++ l)
    (drop-append-le (length R) T rest h ∙ ap (λ (n : ℕ). drop n T ++ rest) l
    ∙ ap (λ (l : List ℕ). l ++ rest) (rows_drop row_numbers row_bytes length_row (length rows) table))
    ∙ sym (append_assoc R (rows_bytes row_numbers (drop (length rows) table)) rest)
    ∙ ap (λ (l : List ℕ). l ++ rest) (sym (rows_append row_numbers rows (drop (length rows) table))) in
    ap (λ (o : List ℕ). record { answer = Ok (length rows); buffer = o }) w
rows_as rows table rest false e = refl

pub listed_as : ListedAsBytes
unfolding ListedAsBytes list_bytes fill_table list
listed_as text policy table rest few = go (intake_refusal text policy)
  where
    R : List Finding
    R = map (finding_row (policy_of policy) text) (findings text policy)

    B : List ℕ
    B = rows_bytes row_numbers table ++ rest

    places : length B / row_bytes ≡ length table
    places = omega (arith, length_rows row_numbers row_bytes length_row table, length-append (rows_bytes row_numbers table) rest, few)

    go : (o : Option Refusal)
        → or_else o (λ (r : Refusal). unwritten (Err r) B) (fill_table row_numbers row_bytes R B)
        ≡ as_bytes_and rest (or_else o (λ (r : Refusal). unwritten (Err r) table)
        (cond (leb (length R) (length table)) (written (Ok (length R)) R table)
        (unwritten (Err (TableTooShort (length R))) table)))
    go (Some r) = refl
    go None =
        ap (λ (n : ℕ). cond (leb (length R) n) (written (Ok (length R)) (rows_bytes row_numbers R) B)
        (unwritten (Err (TableTooShort (length R))) B)) places
        ∙ rows_as R table rest (leb (length R) (length table)) refl
