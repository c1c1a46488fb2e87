-- The proof of each statement of specs/Theorems.antt.
use Rattle.std.specs.Prelude.{Ok, Option, Some, None}
use mathlib.Core.Path.{◌≡◌, refl, ap, sym, ◌∙◌, subst}
use mathlib.Core.Bool.{true}
use mathlib.Core.List.{List}
use Prim.Native.Nat.{ℕ, ◌≤◌}
use native.Mathlib.Omega.{arith}
use lib.ListN.{length}
use Rattle.base.specs.Bits.{one}
use Rattle.base.specs.Refusals.{written}
use Rattle.base.specs.Texts.{parted}
use Rattle.base.specs.Words.{all_bytes}
use Rattle.emoji.specs.Tables.{member as in_table}
use Rattle.emoji.specs.Unicode.{has_variation_sequence}
use Rattle.emoji.specs.UnicodeData.{variation_entries}
use Rattle.policy_key_set.specs.Display.{hex_digit, hex_digits}
use Rattle.policy_key_set.specs.Sets.{entry_count, member as in-set, word_count, word_of, words_of}
use Rattle.policy.specs.PolicyBytes.{is_policy, policy_bytes, policy_of}
use Rattle.policy.specs.Theorems.{WriteRead}
use Rattle.policy.specs.declared.Policy.{Policy}
use Rattle.policy.proofs.Claims.{write_read}
use Rattle.policy.proofs.Refusals.{policy_parts}
use Rattle.policy_sheet.specs.Calls.{read_call}
use Rattle.policy_sheet.specs.Grammar.{Piece, Sheet, allowed_digits}
use Rattle.policy_sheet.specs.Meaning.{AllEntries, FirstNonEntry, Means, Rising, covered, sheet_policy}
use Rattle.policy_sheet.specs.Reader.{
  SheetReading,
  first_descending,
  first_non_entry,
  answer_of,
  is_read,
  is_none,
  kind_of,
  not_a_sheet,
  not_an_entry,
  or_else,
  non_entry_or,
  read_sheet,
  run,
  transition,
  transition_by,
}
use Rattle.policy_sheet.specs.Theorems.{
  EveryReadCall,
  EveryWriteCall,
  Fault,
  FirstFault,
  NonEntryRefused,
  OnlyMeaning,
  OnlyReading,
  ReadingExample,
  ReadsBack,
  SheetsRead,
  FewestDigits,
  SheetsDeterminePolicies,
  SheetExamples,
  WritingExample,
  WrittenRuns,
}
use Rattle.policy_sheet.specs.Writer.{fewest_digits, first_in, joined, line_text, run_text, runs_from, with_entry, write_sheet}
use Rattle.policy_sheet.proofs.Lengths.{sheet_few}
use Rattle.policy_sheet.proofs.Offsets.{fault_inside, non_entry_inside}
use Rattle.policy_sheet.proofs.Outcomes.{
  read_as,
  read_long,
  read_small,
  result-done,
  result-short,
  write-refused,
  write-result,
  write-small,
}
use Rattle.policy_sheet.proofs.PolicyValues.{policy_bytes-many, value_of_bytes}
use Rattle.policy_sheet.proofs.ReadsBack.{back}
use Rattle.policy_sheet.proofs.Faults.{Verdict, faulty, formed, only-pieces, read_rising, verdict}
use Rattle.policy_sheet.proofs.Maximal.{fewest, maximal, point_small}
use Rattle.policy_sheet.proofs.Written.{point_written}
use Rattle.policy_sheet.proofs.Points.{entries_none, none_entries, none_rising, non_entry_some, rising_none, some_non_entry}
use Rattle.policy_sheet.proofs.Words.{one-meaning, pieces_mean}

pub only_reading : OnlyReading
unfolding OnlyReading
only_reading = only-pieces

pub only_meaning : OnlyMeaning
unfolding OnlyMeaning
only_meaning = one-meaning

-- ---- answers

same_offset : {n m : ℕ} → not_a_sheet n ≡ not_a_sheet m → n ≡ m
same_offset e = cc

no_fault_read : (o : Option ℕ) (p : Policy) (n : ℕ) → non_entry_or o (is_read p) ≡ not_a_sheet n → ⊥
no_fault_read None p n e = let z : ◌≡◌ {A = ℕ} 0 1 = cc in omega arith
no_fault_read (Some m) p n e = let z : ◌≡◌ {A = ℕ} 0 1 = cc in omega arith

read_none : (o : Option ℕ) (p q : Policy) → non_entry_or o (is_read p) ≡ is_read q → (o ≡ None) × (p ≡ q)
read_none None p q e = (refl, cc)
read_none (Some m) p q e = let z : ◌≡◌ {A = ℕ} 0 1 = cc in absurd (omega arith)

other_as : (o : Option ℕ) (p : Policy) (n : ℕ) → non_entry_or o (is_read p) ≡ not_an_entry n → o ≡ Some n
other_as None p n e = let z : ◌≡◌ {A = ℕ} 0 1 = cc in absurd (omega arith)
other_as (Some m) p n e = cc

-- ---- refusal 11

pub first_fault : FirstFault
unfolding FirstFault
first_fault s n = (λ e. to (verdict s) e, λ h. from (verdict s) h.0 h.1)
  where
    to : {x : SheetReading} → Verdict s x → x ≡ not_a_sheet n → Fault s n × ((m : ℕ) → Fault s m → n ≤ m)
    to (faulty f g) e = let q = same_offset e in (subst (Fault s) q f, λ m h. subst (λ (k : ℕ). k ≤ m) q (g m h))
    to (formed {xs} h d f) e = absurd (no_fault_read (first_non_entry xs) (sheet_policy xs) n e)

    from : {x : SheetReading} → Verdict s x → Fault s n → ((m : ℕ) → Fault s m → n ≤ m) → x ≡ not_a_sheet n
    from (faulty {n = k} f g) h l = let p = g n h in let q = l k f in let e : k ≡ n = omega arith in ap not_a_sheet e
    from (formed {xs} p d f) h l = absurd (f n h)

-- ---- accepted sheets, and refusal 12

abbrev ReadAs : List ℕ → Policy → Type 0
ReadAs s p = (xs : List Piece) × Sheet s xs × Rising xs × AllEntries xs × Means xs p

pub sheets_read : SheetsRead
unfolding SheetsRead
sheets_read s p = (λ e. to (verdict s) e, from)
  where
    to : {x : SheetReading} → Verdict s x → x ≡ is_read p → ReadAs s p
    to (faulty f g) e = let z : ◌≡◌ {A = ℕ} 0 1 = cc in absurd (omega arith)
    to (formed {xs} h d f) e =
        let r = read_none (first_non_entry xs) (sheet_policy xs) p e in
        (xs, h, none_rising xs d, none_entries xs r.0, subst (Means xs) r.1 (pieces_mean xs))

    from : ReadAs s p → read_sheet s ≡ is_read p
    from h =
        let xs = h.0 in
        read_rising h.1 (rising_none xs h.2) ∙ ap (λ (o : Option ℕ). non_entry_or o (is_read (sheet_policy xs))) (entries_none xs h.3)
        ∙ ap is_read (one-meaning xs (sheet_policy xs) p (pieces_mean xs) h.4)

pub non_entry_refused : NonEntryRefused
unfolding NonEntryRefused
non_entry_refused s n = (λ e. to (verdict s) e, λ h. from h.0 h.1 h.2 h.3)
  where
    to : {x : SheetReading} → Verdict s x → x ≡ not_an_entry n → (xs : List Piece) × Sheet s xs × Rising xs × FirstNonEntry xs n
    to (faulty f g) e = let z : ◌≡◌ {A = ℕ} 0 1 = cc in absurd (omega arith)
    to (formed {xs} h d f) e = (xs, h, none_rising xs d, some_non_entry n xs (other_as (first_non_entry xs) (sheet_policy xs) n e))

    from : (xs : List Piece) → Sheet s xs → Rising xs → FirstNonEntry xs n → read_sheet s ≡ not_an_entry n
    from xs h r f = read_rising h (rising_none xs r) ∙ ap (λ (o : Option ℕ). non_entry_or o (is_read (sheet_policy xs)))
        (non_entry_some n xs f)

-- ---- the writer

pub reads_back : ReadsBack
unfolding ReadsBack SheetsRead
reads_back p v u = let b = back p v u in (sheets_read (write_sheet p) p).1 (b.xs, b.sheet, b.rises, b.entries, b.means)

same_read : {p q : Policy} → is_read p ≡ is_read q → p ≡ q
same_read e = cc

pub sheets_determine_policies : SheetsDeterminePolicies
unfolding SheetsDeterminePolicies ReadsBack
sheets_determine_policies p q v w u t = (
  λ e. ap write_sheet e,
  λ e. same_read (sym (reads_back p v u) ∙ ap read_sheet e ∙ reads_back q w t),
)

-- ---- the calls

value_read : (s : List ℕ) (p : Policy) → read_sheet s ≡ is_read p → length (policy_bytes p) ≡ 200
unfolding SheetsRead
value_read s p e = policy_bytes-many p ((sheets_read s p).0 e).4.value

pub every_read_call : EveryReadCall
unfolding EveryReadCall FirstFault NonEntryRefused
every_read_call sheet out = record {
  long = read_long sheet out;
  no_sheet = λ h n e. read_as sheet out (not_a_sheet n) h e;
  no_entry = λ h n e. read_as sheet out (not_an_entry n) h e;
  short = λ h p e l. read_as sheet out (is_read p) h e ∙ result-short 200 (policy_bytes p) out (value_read sheet p e) l;
  done = λ h p e l. read_as sheet out (is_read p) h e ∙ result-done 200 (policy_bytes p) out (value_read sheet p e) l;
  small =
      read_small sheet out (λ n e. fault_inside ((first_fault sheet n).0 e).0)
      (λ n e. let r = (non_entry_refused sheet n).0 e in non_entry_inside r.1 r.3) (value_read sheet);
}

pub every_write_call : EveryWriteCall
unfolding EveryWriteCall ReadsBack WriteRead
every_write_call policy out = record {
  no_policy = write-refused policy out;
  short = λ e l. write-result policy out e ∙ result-short (length S) S out refl l;
  done = λ e l. write-result policy out e ∙ result-done (length S) S out refl l;
  few = sheet_few (policy_of policy);
  small = write-small policy out;
  reads_back = λ b e o l. back_to b e o l;
}
  where
    S : List ℕ
    S = write_sheet (policy_of policy)

    back_to : all_bytes policy ≡ true → is_policy policy ≡ true → (o : List ℕ) → 200 ≤ length o
        → read_call S o ≡ written (Ok 200) policy o
    back_to b e o l =
        let v = value_of_bytes policy b in
        let n = policy_parts policy e in
        read_as S o (is_read (policy_of policy)) (omega (arith, sheet_few (policy_of policy))) (reads_back (policy_of policy) v n.2)
        ∙ result-done 200 (policy_bytes (policy_of policy)) o (policy_bytes-many (policy_of policy) v) l
        ∙ ap (λ (r : List ℕ). written (Ok 200) r o) (write_read policy b n.0 n.1)

-- ---- the form of a written sheet

pub written_runs : WrittenRuns
unfolding WrittenRuns
written_runs ws = maximal (λ (i : ℕ). in-set i ws) 0 variation_entries (λ (i : ℕ). in-set i ws) (λ i. ap (λ (n : ℕ). in-set n ws)
    (omega arith))

pub fewest_digits_lem : FewestDigits
unfolding FewestDigits
fewest_digits_lem c s h = (fewest h, point_written c (point_small h))

-- ---- examples

pub sheet_examples : SheetExamples
unfolding SheetExamples read_sheet answer_of run transition transition_by kind_of allowed_digits is_none or_else first_descending
    first_non_entry
    has_variation_sequence in_table variation_entries
sheet_examples = (refl, refl, refl, refl, refl, refl, refl, refl, refl, refl, refl, refl, refl, refl, refl, refl, refl)

pub reading_example : ReadingExample
unfolding ReadingExample read_sheet answer_of run transition transition_by kind_of allowed_digits is_none or_else first_descending
    first_non_entry
    has_variation_sequence in_table variation_entries sheet_policy words_of word_of covered word_count entry_count
reading_example = refl

pub writing_example : WritingExample
unfolding WritingExample write_sheet line_text run_text runs_from with_entry joined first_in fewest_digits hex_digits hex_digit parted
    in-set one
    variation_entries
writing_example = refl
