-- Demand 3: one claim about a list of mending calls as a whole, `ListClaim`, and one about a formatted text, `FormattedClaim` (document
-- 01, "Mending in sequence").
-- Both are about the code. `format`, `list_bytes`, `list` and `mend` are the definitions that the contracts of `format_text`,
-- `list_findings`, `list_into_table` and `mend` cite for the answer and the buffer of every call (crates formatting, listing and
-- mending). There is no second model of a call.
use Rattle.base.specs.declared.Refusal.{Refusal}
use Rattle.std.specs.Prelude.{
  ◌≡◌,
  ◌↔◌,
  Bool,
  true,
  false,
  cond,
  ℕ,
  suc,
  ◌+◌,
  ◌*◌,
  ◌≤◌,
  ◌<◌,
  drop,
  length,
  take,
  Ok,
  Err,
  Some,
  None,
  Result,
}
use mathlib.Core.List.{List, [], ◌∷◌, ◌++◌, map, Memᴰ}
use Rattle.base.specs.Tables.{rows_bytes}
use Rattle.utf8.specs.Rfc3629.{WellFormed, chars, encode_all}
use Rattle.emoji.specs.declared.presentation.Presentation.{Presentation}
use Rattle.policy.specs.declared.Policy.{Policy}
use Rattle.policy.specs.PolicyBytes.{is_policy, policy_of}
use Rattle.scanner.specs.Classes.{strip}
use Rattle.scanner.specs.Items.{Item, items}
use Rattle.scanner.specs.Spans.{Found, size, width}
use Rattle.analysis.specs.Analysis.{Choice, choices, default_decisions, is_finding, non_canonicality}
use Rattle.analysis.specs.Cells.{selector_count}
use Rattle.analysis.specs.Counts.{◌⊕◌, adding, removing}
use Rattle.analysis.specs.declared.types.NonCanonicality.{NonCanonicality}
use Rattle.formatter.specs.Book.{
  Entry,
  Mark,
  Mending,
  OpenFinding,
  at_first_of,
  book_after,
  book_step,
  book_text,
  first_book,
  items_of,
  marked,
  mended,
  mending_of,
  open_finding_at,
  open_findings,
  place,
  untouched,
}
use Rattle.analysis.specs.Findings.{totals}
use Rattle.formatter.specs.Findings.{findings, row_in, text_totals}
use Rattle.formatter.specs.Format.{format, formatted}
use Rattle.formatter.specs.List.{list, list_bytes, row_bytes, row_numbers}
use Rattle.analysis.specs.Decisions.{meaning}
use Rattle.formatter.specs.Mend.{Call, mend, next_text, outcomes, text_after}
use Rattle.base.specs.Refusals.{After}
use Rattle.analysis.specs.declared.types.Finding.{Finding}
use Rattle.base.specs.declared.Refusal.TheVariants.{BadDecision, NoFinding, OutputTooShort, TableTooShort, WrongNumberOfDecisions}

-- ---- words of the claim

-- Every element of a list has a property.
pub data Each {A : Type 0} (P : A → Type 0) : List A → Type 0 where
  no_more : Each P []
  and_each : {x : A} {xs : List A} → P x → Each P xs → Each P (x ∷ xs)

-- Whether the answer says that the call was accepted.
abbrev pub is_mended : Result ℕ Refusal → Bool
is_mended (Ok n) = true
is_mended (Err r) = false

-- The number of accepted calls.
abbrev pub accepted_calls : List (After (Result ℕ Refusal) ℕ) → ℕ
accepted_calls [] = 0
accepted_calls (a ∷ l) = cond (is_mended a.answer) (suc (accepted_calls l)) (accepted_calls l)

-- The list `others`, with an element put before it if the mark is that of a mended finding.
abbrev pub only_mended : {A : Type 0} → Mark → (List Presentation → A) → List A → List A
only_mended untouched say others = others
only_mended (mended ds) say others = say ds ∷ others

-- The mended findings of a book.
abbrev pub mended_items : List Entry → List Item
mended_items [] = []
mended_items (e ∷ es) = only_mended e.mark (λ (ds : List Presentation). e.item) (mended_items es)

-- The mended findings, by their starts in the first text, with their decisions. The first entry starts at the offset `n`.
unfoldable pub mended_from : ℕ → List Entry → List Mending
mended_from n [] = []
mended_from n (e ∷ es) =
    only_mended e.mark (λ (ds : List Presentation). record { start = n; decisions = ds })
    (mended_from (n + size width e.item.chars) es)

-- Two lists have the same members, whatever the order and however often each occurs.
abbrev pub Alike : List Mending → List Mending → Type 0
Alike k l = (m : Mending) → Memᴰ m k ↔ Memᴰ m l

-- The call `c` of the list `cs` comes directly after the calls `before`.
pub record CallAfter (cs before : List Call) (c : Call) : Type 0 where
  pub after : List Call
  pub whole : cs ≡ before ++ c ∷ after

-- What can be seen of a finding in a text: its bytes there, its counts and its choices.
pub record Seen : Type 0 where
  pub bytes_there : List ℕ
  pub counts : NonCanonicality
  pub choices : List Choice

module _ (p : Policy) where
  -- The item is a finding, and there are as many decisions as it wants.
  pub record ValidMending (x : Item) (ds : List Presentation) : Type 0 where
    pub is-finding : is_finding p x ≡ true
    pub as_many : length ds ≡ (non_canonicality p x).presentation_decisions

  -- A mended item is a finding, mended under as many decisions as it wants. An open item may be any item.
  abbrev pub ValidMark : Mark → Item → Type 0
  ValidMark untouched x = Unit {0}
  ValidMark (mended ds) x = ValidMending x ds

  -- A mended item is mended under its default decisions.
  abbrev pub ByDefault : Mark → Item → Type 0
  ByDefault untouched x = Unit {0}
  ByDefault (mended ds) x = ds ≡ default_decisions p x

  -- The book in which all findings are mended under their default decisions.
  abbrev pub all_mended : List Item → List Entry
  all_mended xs = map (λ (x : Item). record { item = x; mark = cond (is_finding p x) (mended (default_decisions p x)) untouched }) xs

  -- What can be seen of a given finding in a text.
  abbrev pub seen : List ℕ → Found → Seen
  seen text f = record {
    bytes_there = take (length (encode_all f.item.chars)) (drop f.start text);
    counts = non_canonicality p f.item;
    choices = choices p f.item;
  }

  -- The row of an open finding in a text, "with starts and ends counted in that text".
  abbrev pub open_row : List ℕ → OpenFinding → Finding
  open_row text o = row_in text (place o) (place o + length (encode_all o.item.chars)) (non_canonicality p o.item)

module _ (policy : List ℕ) where
  -- The text and the policy pass the tests 1, 2 and 3.
  pub record Accepted (text : List ℕ) : Type 0 where
    pub short : length text ≤ 16777216
    pub is_policy_lem : is_policy policy ≡ true
    pub well_formed : WellFormed text

  -- The call's offset is the place of an open finding.
  pub record OpenAt (es : List Entry) (c : Call) (o : OpenFinding) : Type 0 where
    pub is_open : Memᴰ o (open_findings policy es)
    pub there : c.offset ≡ place o

  -- A call has decisions "as many as the finding's eighth count".
  abbrev pub AsMany : Call → OpenFinding → Type 0
  AsMany c o = length c.decisions ≡ (non_canonicality (policy_of policy) o.item).presentation_decisions

  -- "A call mends an open finding if its offset is that finding's place, its decisions are valid (as many as the finding's
  -- eighth count, each 0 or 1) and its output holds the book's text after this."
  pub record MendsOpenFinding (es : List Entry) (c : Call) : Type 0 where
    pub finding : OpenFinding
    pub at : OpenAt es c finding
    pub as_many : AsMany c finding
    pub valid : Each (λ (d : ℕ). d ≤ 1) c.decisions
    pub room : length (book_text policy (marked policy es c)) ≤ length c.out

  -- "the first refusal below that fits", with the value that it returns.
  pub data FirstRefusal (es : List Entry) (c : Call) : Result ℕ Refusal → Type 0 where
    no_finding_lem : ((o : OpenFinding) → OpenAt es c o → ⊥) → FirstRefusal es c (Err NoFinding)
    few-or-many : (o : OpenFinding) → OpenAt es c o → (AsMany c o → ⊥)
        → FirstRefusal es c (Err (WrongNumberOfDecisions (non_canonicality (policy_of policy) o.item).presentation_decisions))
    above-one : (o : OpenFinding) → OpenAt es c o → AsMany c o → (ds later : List ℕ) (d : ℕ) → c.decisions ≡ ds ++ d ∷ later
        → Each (λ (d : ℕ). d ≤ 1) ds → 1 < d → FirstRefusal es c (Err (BadDecision (length ds)))
    no_room : (o : OpenFinding) → OpenAt es c o → AsMany c o → Each (λ (d : ℕ). d ≤ 1) c.decisions
        → length c.out < length (book_text policy (marked policy es c))
        → FirstRefusal es c (Err (OutputTooShort (length (book_text policy (marked policy es c)))))

  -- The findings that the accepted calls of a list mend, with the decisions that they give, in the order of the calls.
  unfoldable pub mendings : List ℕ → List Entry → List Call → List Mending
  mendings text es [] = []
  mendings text es (c ∷ cs) =
      let a = mend text policy c.offset c.decisions c.out in
      cond (is_mended a.answer) (mending_of (map meaning c.decisions) (open_finding_at c.offset (open_findings policy es))) []
      ++ mendings (next_text text a) (book_step policy es c) cs

  module _ (first : List ℕ) where
    -- The book after the calls of a list on the first text.
    abbrev pub book : List Call → List Entry
    book cs = book_after policy (first_book policy first) cs

    -- The text after the calls of a list.
    abbrev pub text : List Call → List ℕ
    text cs = text_after first policy cs

    -- The findings that are open after the calls of a list.
    abbrev pub open_after : List Call → List OpenFinding
    open_after cs = open_findings policy (book cs)

    -- The findings that the accepted calls of a list mend, with their decisions.
    abbrev pub given : List Call → List Mending
    given cs = mendings first (first_book policy first) cs

    -- The outcome of a call after other calls: its answer and its buffer.
    abbrev pub call_outcome : List Call → Call → After (Result ℕ Refusal) ℕ
    call_outcome before c = mend (text before) policy c.offset c.decisions c.out

    -- The counts of the mended findings, added up.
    abbrev pub mended_counts : List Call → NonCanonicality
    mended_counts cs = totals (policy_of policy) (mended_items (book cs))

    -- ---- the claim on a list

    pub record ListClaim (cs : List Call) : Type 0 where
      -- A call is accepted exactly when its offset is the place of an open finding, its decisions are valid and its output has room.
      pub accepted : (before : List Call) (c : Call) → CallAfter cs before c → (is_mended (call_outcome before c).answer ≡ true)
          ↔ MendsOpenFinding (book before) c
      -- An accepted call writes the book's new text at the front of its output, and leaves the bytes after that as they were.
      pub writes : (before : List Call) (c : Call) → CallAfter cs before c → is_mended (call_outcome before c).answer ≡ true
          → call_outcome before c ≡ record {
            answer = Ok (length (text (before ++ c ∷ [])));
            buffer = text (before ++ c ∷ []) ++ drop (length (text (before ++ c ∷ []))) c.out;
          }
      -- Any other call is answered with the first refusal that fits. Its buffer, the book and the text stay as they were.
      pub turned-back : (before : List Call) (c : Call) → CallAfter cs before c → is_mended (call_outcome before c).answer ≡ false
          → FirstRefusal (book before) c (call_outcome before c).answer × ((call_outcome before c).buffer ≡ c.out)
          × (book (before ++ c ∷ []) ≡ book before) × (text (before ++ c ∷ []) ≡ text before)
      -- After the list, the text is the first one with exactly the mended findings replaced, under the decisions given.
      pub at_first : book_text policy (first_book policy first) ≡ first
      pub after : text cs ≡ book_text policy (book cs)
      pub same-items : items_of (book cs) ≡ items (chars first)
      pub only-findings : Each (λ (e : Entry). ValidMark (policy_of policy) e.mark e.item) (book cs)
      pub as-given : Alike (mended_from 0 (book cs)) (given cs)
      -- The place of an open finding plus the bytes taken before it is its start in the first text plus the replacements put before it.
      pub places : Each (λ (o : OpenFinding). place o + o.taken ≡ o.was + o.put) (open_after cs)
      -- Listing into a table with room gives exactly the open findings. Without room it gives their number.
      pub listed : (table : List Finding) → length (open_after cs) ≤ length table
          → list (text cs) policy table ≡ record {
            answer = Ok (length (open_after cs));
            buffer = map (open_row (policy_of policy) (text cs)) (open_after cs) ++ drop (length (open_after cs)) table;
          }
      pub unlisted : (table : List Finding) → length table < length (open_after cs)
          → list (text cs) policy table ≡ record { answer = Err (TableTooShort (length (open_after cs))); buffer = table }
      -- Listing into a table of bytes with room writes the bytes of the open findings' rows at the front, and leaves the bytes after them.
      pub listed-bytes : (table : List ℕ) → length (open_after cs) * row_bytes ≤ length table
          → list_bytes (text cs) policy table ≡ record {
            answer = Ok (length (open_after cs));
            buffer = rows_bytes row_numbers (map (open_row (policy_of policy) (text cs)) (open_after cs))
                ++ drop (length (open_after cs) * row_bytes) table;
          }
      pub unlisted-bytes : (table : List ℕ) → length table < length (open_after cs) * row_bytes
          → list_bytes (text cs) policy table ≡ record { answer = Err (TableTooShort (length (open_after cs))); buffer = table }
      -- Each open finding is a finding of the first text.
      pub were-findings : (o : OpenFinding) → Memᴰ o (open_after cs) → Memᴰ (at_first_of o) (findings first policy)
      -- The open findings have the same bytes, counts and choices as in the first text.
      pub unaltered : map (seen (policy_of policy) (text cs)) (findings (text cs) policy)
          ≡ map (seen (policy_of policy) first) (map at_first_of (open_after cs))
      -- Each of the eight totals is that of the first text, less the counts of the mended findings.
      pub eight-totals : text_totals (text cs) policy ⊕ mended_counts cs ≡ text_totals first policy
      -- The number of accepted calls is the number of findings in the first text, less the number of open findings.
      pub number : accepted_calls (outcomes first policy cs) + length (open_after cs) ≡ length (findings first policy)
      -- Two lists whose accepted calls mend the same findings under the same decisions end in the same text, whatever the order.
      pub any_order : (ds : List Call) → Alike (given cs) (given ds) → text cs ≡ text ds
      -- Once all findings are mended, the text has no finding.
      pub none_left : open_after cs ≡ [] → findings (text cs) policy ≡ []
      -- Once all findings are mended under their default decisions, the text is the formatted text.
      pub by_default : open_after cs ≡ [] → Each (λ (e : Entry). ByDefault (policy_of policy) e.mark e.item) (book cs)
          → text cs ≡ formatted first policy
      -- The number of selectors is that of the first text, less the six removing counts of the mended findings, plus their two adding ones.
      pub selectors-number : selector_count (chars (text cs)) + removing (mended_counts cs)
          ≡ selector_count (chars first) + adding (mended_counts cs)
      -- All other characters are the same, in the same order.
      pub others : strip (chars (text cs)) ≡ strip (chars first)
      -- The text before each call is accepted: none is longer than 16,777,216 bytes.
      pub bounded : (before later : List Call) → cs ≡ before ++ later → Accepted (text before)

    -- ---- the claim on a formatted text, whatever its length

    -- The first text's book, with all findings mended under their default decisions.
    abbrev pub mended_all : List Entry
    mended_all = all_mended (policy_of policy) (items (chars first))

    -- The formatted text.
    abbrev pub result : List ℕ
    result = formatted first policy

    pub record FormattedClaim : Type 0 where
      -- The formatted text is the first text with all findings replaced, under the default decisions.
      pub at_first : book_text policy (first_book policy first) ≡ first
      pub after : result ≡ book_text policy mended_all
      pub well_formed : WellFormed result
      -- The formatted text has no finding, whatever its length, and formatting it again changes nothing.
      pub none_left : findings result policy ≡ []
      pub none-listed : (table : List Finding) → length result ≤ 16777216 → list result policy table
          ≡ record { answer = Ok 0; buffer = table }
      pub none-listed-bytes : (table : List ℕ) → length result ≤ 16777216 → list_bytes result policy table
          ≡ record { answer = Ok 0; buffer = table }
      pub again : formatted result policy ≡ result
      pub again-unchanged : (out : List ℕ) → length result ≤ 16777216 → format result policy out
          ≡ record { answer = Ok None; buffer = out }
      -- Each of the eight totals is that of the first text, less the counts of all findings.
      pub eight-totals : text_totals result policy ⊕ totals (policy_of policy) (mended_items mended_all) ≡ text_totals first policy
      -- The number of selectors is that of the first text, less the six removing counts of all findings, plus their two adding ones.
      pub selectors-number : selector_count (chars result) + removing (text_totals first policy)
          ≡ selector_count (chars first) + adding (text_totals first policy)
      -- All other characters are the same, in the same order.
      pub others : strip (chars result) ≡ strip (chars first)
      -- "Formatted text is at most 4 times the input."
      pub four_times : length result ≤ 4 * length first
      -- A text is its own formatted text exactly when it has no finding.
      pub no_change : (result ≡ first) ↔ (findings first policy ≡ [])
      -- For a text without a finding the call answers "unchanged", writes nothing and never gives 8. For any other text it writes the
      -- formatted text, or gives 8 with its length if the output is too short.
      pub unchanged-said : (out : List ℕ) → ((format first policy out).answer ≡ Ok None) ↔ (findings first policy ≡ [])
      pub unchanged-kept : (out : List ℕ) → findings first policy ≡ [] → format first policy out
          ≡ record { answer = Ok None; buffer = out }
      pub changed_written : (out : List ℕ) → 0 < length (findings first policy) → length result ≤ length out
          → format first policy out ≡ record { answer = Ok (Some (length result)); buffer = result ++ drop (length result) out }
      pub changed-short : (out : List ℕ) → 0 < length (findings first policy) → length out < length result
          → format first policy out ≡ record { answer = Err (OutputTooShort (length result)); buffer = out }
