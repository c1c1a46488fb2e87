-- The values of answers are small: each is at most six times the limit of a text, and so below 2^56.
use Rattle.base.specs.Answers.{answer_row, found_row, optional_row}
use Rattle.std.specs.Prelude.{Ok, Err, Option, Some, None}
use mathlib.Core.Path.{◌≡◌, refl, ap, sym, ◌∙◌, subst}
use mathlib.Core.Bool.{Bool, true, false, cond, not}
use mathlib.Core.List.{List, [], ◌∷◌, ◌++◌, map, Memᴰ}
use Prim.Native.Nat.{ℕ, zero, suc, ◌+◌, ◌*◌, ◌/◌, ◌≤◌}
use native.Mathlib.Omega.{arith}
use lib.Dec.{eqb, leb}
use lib.ListN.{drop, length, length-append, length-drop, length-map, length-take, take}
use borrow.Author.Tests.{eqb-true, leb-true}
use Rattle.base.specs.Tables.{fill_table, rows_bytes}
use Rattle.base.proofs.Numbers.{length_bytes_of_lem}
use Rattle.base.specs.Output.{answer_of}
use Rattle.base.specs.Refusals.{After, RefusalRow, unwritten, or_else, refusal_row, text_limit, written}
use Rattle.base.specs.declared.Refusal.{Refusal}
use Rattle.base.specs.declared.Refusal.TheVariants.{NotWellFormed, OutputTooShort, TableTooShort, TextTooLong, WrongNumberOfDecisions}
use Rattle.base.proofs.Tests.{both_true}
use Rattle.utf8.specs.Rfc3629.{chars, encode_all, valid_up_to_of}
use Rattle.utf8.proofs.Texts.{valid_up_to_le}
use Rattle.emoji.specs.Tables.{entry_at}
use Rattle.emoji.specs.Unicode.{variation_entry}
use Rattle.emoji.specs.UnicodeData.{unicode_version, variation_entries}
use Rattle.emoji.proofs.Between.{every}
use Rattle.policy.specs.DefaultPolicy.{
  bare_as_text_words,
  bare_as_text_keycap_words,
  default_policy,
  prefer_bare_words,
  prefer_bare_keycap_words,
}
use Rattle.policy.specs.PolicyBytes.{is_policy, key_words, policy_bytes, policy_fault, policy_of, policy_words}
use Rattle.policy.specs.declared.Policy.{Policy}
use Rattle.policy.proofs.Refusals.{fault_value}
use Rattle.scanner.specs.Items.{Item, items}
use Rattle.scanner.specs.Spans.{scan, size, width}
use Rattle.scanner.specs.TextCheck.{text_refusal}
use Rattle.scanner.proofs.Bytes.{size-chars, size-width}
use Rattle.scanner.proofs.Reading.{item_derives}
use Rattle.scanner.proofs.TextTests.{text_is}
use Rattle.scanner.proofs.Tiling.{tiling}
use Rattle.analysis.specs.Analysis.{is_finding, replacement}
use Rattle.analysis.specs.Decisions.{bad_decision, decisions_refusal, judge, meaning, wanted}
use Rattle.analysis.specs.Findings.{finding_at}
use Rattle.formatter.specs.Demand3.{Accepted}
use Rattle.formatter.specs.Findings.{finding_row, findings}
use Rattle.formatter.specs.Format.{format, formatted, same_bytes}
use Rattle.formatter.specs.Intake.{intake_refusal}
use Rattle.formatter.specs.List.{item_bytes, item_numbers, list_bytes, list_items, row_bytes, row_numbers}
use Rattle.formatter.specs.Mend.{exchanged, mend}
use Rattle.formatter.proofs.Formatting.{format_tests}
use Rattle.formatter.proofs.FormattedClaim.{formatted-claim}
use Rattle.formatter.proofs.Judging.{some-bad}
use Rattle.formatter.proofs.Passing.{by_tests_lem, intake_is, passed-accepted, with_policy}
use Rattle.formatter.proofs.Replacements.{four_times}
use Rattle.tilghorz.proofs.FewItems.{few-found, few-items, few-spans, few-wanted, found-item, within_all}

-- ---- the tests of a call

-- The bound of all values.
abbrev pub most : ℕ
most = 6 * text_limit

-- If the value of the refusal is at most the bound, and that of the answer without a refusal too, so is the value of the answer.
pub tested : {R A : Type 0} (row : R → RefusalRow) (refused : Refusal → R) → ((r : Refusal) → row (refused r) ≡ refusal_row r)
    → (o : Option Refusal) (out : List A) (next : After R A) → ((r : Refusal) → o ≡ Some r → (refusal_row r).value ≤ most)
    → (o ≡ None → (row next.answer).value ≤ most)
    → (row (or_else o (λ (r : Refusal). unwritten (refused r) out) next).answer).value ≤ most
tested row refused same (Some r) out next h k = omega (arith, h r refl, ap (λ (w : RefusalRow). w.value) (same r))
tested row refused same None out next h k = k refl

-- The tests of a text and a policy: a refusal has a small value, and a text that passes them is within the limit.
tests_small : (fault : Refusal) → (refusal_row fault).value ≤ most → (text : List ℕ) (a b f : Bool) → leb (length text) text_limit ≡ a
    → (r : Refusal) → by_tests_lem a b f fault text ≡ Some r → (refusal_row r).value ≤ most
tests_small fault s text a b f p r e = go a b f p e
  where
    is : (s : Refusal) → s ≡ r → (refusal_row s).value ≤ most → (refusal_row r).value ≤ most
    is s z h = subst (λ (r : Refusal). (refusal_row r).value ≤ most) z h

    go : (a b f : Bool) → leb (length text) text_limit ≡ a → by_tests_lem a b f fault text ≡ Some r → (refusal_row r).value ≤ most
    go true true true p e = let z : ◌≡◌ {A = ℕ} 0 1 = cc in absurd (omega arith)
    go true true false p e = is (NotWellFormed (valid_up_to_of text)) (cc)
        (omega (arith, valid_up_to_le text, leb-true (length text) text_limit p))
    go true false f p e = is fault (cc) s
    go false b f p e = is TextTooLong (cc) (omega arith)

tests_short : (text : List ℕ) (a f : Bool) → leb (length text) text_limit ≡ a → by_tests_lem a true f TextTooLong text ≡ None
    → length text ≤ text_limit
tests_short text true f p e = leb-true (length text) text_limit p
tests_short text false f p e = let z : ◌≡◌ {A = ℕ} 0 1 = cc in absurd (omega arith)

pub intake_small : (text policy : List ℕ) (r : Refusal) → intake_refusal text policy ≡ Some r → (refusal_row r).value ≤ most
intake_small text policy r e =
    tests_small (policy_fault policy) (omega (arith, fault_value policy)) text (leb (length text) text_limit) (is_policy policy)
    (eqb (valid_up_to_of text) (length text)) refl r (sym (intake_is text policy refl refl refl) ∙ e)

-- ---- the calls

pub format_small : (text policy out : List ℕ) → (optional_row (format text policy out).answer).value ≤ most
unfolding format optional_row
format_small text policy out =
    tested optional_row Err (λ r. refl) (intake_refusal text policy) out _ (intake_small text policy)
    (λ e.
    let a = passed-accepted text policy e in
    go (same_bytes F text) (leb (length F) (length out)) (formatted-claim policy text a).four_times a.short)
  where
    F : List ℕ
    F = formatted text policy

    go : (same fits : Bool) → length F ≤ 4 * length text → length text ≤ text_limit
        → (optional_row (format_tests same fits F out).answer).value ≤ most
    go true fits h k = omega arith
    go false true h k = omega arith
    go false false h k = omega arith

-- Listing rows into a table: there are at most as many rows as the text has bytes.
table_small : {A : Type 0} (numbers : A → List ℕ) (k : ℕ) (rows : List A) (table text : List ℕ) → length rows ≤ length text
    → length text ≤ text_limit
    → (answer_row (fill_table numbers k rows table).answer).value ≤ most
unfolding fill_table answer_row
table_small numbers k rows table text f h = go (leb (length rows) (length table / k))
  where
    go : (b : Bool) → (answer_row (cond b (written (Ok (length rows)) (rows_bytes numbers rows) table)
        (unwritten (Err (TableTooShort (length rows))) table)).answer).value ≤ most
    go true = omega arith
    go false = omega arith

pub list-small : (text policy table : List ℕ) → (answer_row (list_bytes text policy table).answer).value ≤ most
unfolding list_bytes answer_row findings
list-small text policy table =
    let p = policy_of policy in
    let f = few-found (is_finding p) 0 (items (chars text)) in
    tested answer_row Err (λ r. refl) (intake_refusal text policy) table _ (intake_small text policy)
    (λ e. table_small row_numbers row_bytes (map (finding_row p text) (findings text policy)) table text
    (omega (arith, length-map (findings text policy) (finding_row p text), f, few-items text)) (passed-accepted text policy e).short)

pub items-small : (text table : List ℕ) → (answer_row (list_items text table).answer).value ≤ most
unfolding list_items answer_row
items-small text table =
    let a = leb (length text) text_limit in
    let f = eqb (valid_up_to_of text) (length text) in
    let same = with_policy a f TextTooLong text ∙ sym (text_is text refl refl) in
    tested answer_row Err (λ r. refl) (text_refusal text) table _
    (λ r e. tests_small TextTooLong (omega arith) text a true f refl r (same ∙ e))
    (λ e. table_small item_numbers item_bytes (scan text) table text (few-spans text)
    (tests_short text a f refl (same ∙ e)))

module _ (text policy : List ℕ) (offset : ℕ) (decisions out : List ℕ) where
  abbrev P : Policy
  P = policy_of policy

  decisions-small : (x : Item) (r : Refusal) → wanted P x ≤ text_limit → decisions_refusal (wanted P x) decisions ≡ Some r
      → (refusal_row r).value ≤ most
  unfolding decisions_refusal
  decisions-small x r h e = go (eqb (length decisions) (wanted P x)) refl e
    where
      go : (b : Bool) → eqb (length decisions) (wanted P x) ≡ b
          → cond (not b) (Some (WrongNumberOfDecisions (wanted P x))) (bad_decision 0 decisions) ≡ Some r → (refusal_row r).value ≤ most
      go true f e =
          let i = some-bad 0 decisions r e in
          let v = ap (λ (r : Refusal). (refusal_row r).value) i.index in
          omega (arith, v, eqb-true (length decisions) (wanted P x) f, ap length i.whole, length-append i.before (i.bad ∷ i.after))
      go false f e = let z : WrongNumberOfDecisions (wanted P x) ≡ r = cc in subst (λ (r : Refusal). (refusal_row r).value ≤ most) z
          (omega arith)

  -- The length of the text with a finding exchanged for its replacement.
  exchanged-small : (a : Accepted policy text) (x : Item) → Memᴰ x (items (chars text))
      → length (exchanged text P offset (map meaning decisions) (Some x)) ≤ most
  exchanged-small a x m =
      let r = replacement P x (map meaning decisions) in
      let b = drop (offset + length (encode_all x.chars)) text in
      let l = within_all x (items (chars text)) m in
      let s = ap (size width) (tiling (chars text)) in
      let f = four_times P x (map meaning decisions) (item_derives (chars text) x m) in
      omega (
        arith,
        a.short,
        l,
        s,
        size-chars text,
        valid_up_to_le text,
        f,
        size-width r,
        length-append (take offset text ++ encode_all r) b,
        length-append (take offset text) (encode_all r),
        length-take offset text,
        length-drop (offset + length (encode_all x.chars))
            text,
      )

  pub mend-small : (answer_row (mend text policy offset decisions out).answer).value ≤ most
  unfolding mend answer_row findings judge
  mend-small =
      tested answer_row Err (λ r. refl) (intake_refusal text policy) out _ (intake_small text policy)
      (λ e. go (finding_at offset (findings text policy)) refl (passed-accepted text policy e))
    where
      go : (o : Option Item) → finding_at offset (findings text policy) ≡ o → Accepted policy text
          → (answer_row (judge P o decisions (exchanged text P offset (map meaning decisions) o) out).answer).value ≤ most
      go None f a = omega arith
      go (Some x) f a =
          let m = found-item (is_finding P) offset 0 (items (chars text)) x f in
          let l = within_all x (items (chars text)) m in
          let s = ap (size width) (tiling (chars text)) in
          let w = few-wanted P x in
          tested answer_row Err (λ r. refl) (decisions_refusal (wanted P x) decisions) out _
          (λ r g. decisions-small x r (omega (arith, w, l, s, size-chars text, valid_up_to_le text, a.short)) g)
          (λ g. room (leb (length E) (length out)) (exchanged-small a x m))
        where
          E : List ℕ
          E = exchanged text P offset (map meaning decisions) (Some x)

          room : (b : Bool) → length E ≤ most
              → (answer_row (cond b (written (Ok (length E)) E out)
              (unwritten (Err (OutputTooShort (length E))) out)).answer).value ≤ most
          room true h = omega arith
          room false h = omega arith

-- The bytes of a policy are those of 25 words.
default_bytes : length (policy_bytes default_policy) ≡ 25 * 8
unfolding policy_bytes policy_words key_words default_policy prefer_bare_words prefer_bare_keycap_words bare_as_text_words
    bare_as_text_keycap_words
default_bytes = length_bytes_of_lem (unicode_version ∷ policy_words default_policy)

pub default_small : (out : List ℕ) → (answer_row (answer_of (policy_bytes default_policy) out)).value ≤ most
unfolding answer_of answer_row
default_small out = go (leb (length B) (length out)) default_bytes
  where
    B : List ℕ
    B = policy_bytes default_policy

    go : (b : Bool) → length B ≡ 25 * 8 → (answer_row (cond b (Ok (length B)) (Err (OutputTooShort (length B))))).value ≤ most
    go true h = omega arith
    go false h = omega arith

-- Every code point is a small number.
entries_small : (i : ℕ) (xs : List ℕ) → every (λ c. leb c 0x10FFFF) xs ≡ true → (found_row (entry_at i xs)).value ≤ most
unfolding entry_at found_row every
entries_small i [] e = omega arith
entries_small zero (x ∷ xs) e = omega (arith, leb-true x 0x10FFFF (both_true (leb x 0x10FFFF) (every (λ c. leb c 0x10FFFF) xs) e).0)
entries_small (suc i) (x ∷ xs) e = entries_small i xs (both_true (leb x 0x10FFFF) (every (λ c. leb c 0x10FFFF) xs) e).1

pub entry_small : (i : ℕ) → (found_row (variation_entry i)).value ≤ most
unfolding variation_entry every variation_entries
entry_small i = entries_small i variation_entries refl
