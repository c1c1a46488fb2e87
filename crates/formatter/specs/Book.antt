-- The book of a list of mending calls, and what a call does to it (document 01, "Mending in sequence"; "book" is document 01's term).
use Rattle.std.specs.Prelude.{Bool, true, false, cond, ◌&&◌, List, [], ◌∷◌, ◌++◌, map, ℕ, ◌+◌, ◌-◌, eqb, leb, length, Some, None, Option}
use Rattle.utf8.specs.Rfc3629.{chars, encode_all}
use Rattle.emoji.specs.declared.presentation.Presentation.{Presentation}
use Rattle.policy.specs.declared.Policy.{Policy}
use Rattle.policy.specs.PolicyBytes.{policy_of}
use Rattle.scanner.specs.Items.{Item, items}
use Rattle.scanner.specs.Spans.{Found, size, width}
use Rattle.analysis.specs.Analysis.{is_finding, non_canonicality, replacement}
use Rattle.analysis.specs.Decisions.{meaning}
use Rattle.formatter.specs.Mend.{Call}

-- "In it each finding is open, as all are at first, or mended with its decisions."
pub data Mark : Type 0 where
  untouched : Mark
  mended : List Presentation → Mark

-- An item of the first text and its mark. Only findings are ever mended.
pub record Entry : Type 0 where
  pub item : Item
  pub mark : Mark

-- The items of a book, without their marks: those of the first text.
abbrev pub items_of : List Entry → List Item
items_of es = map (λ (e : Entry). e.item) es

-- The entries of a list of items that are all open.
abbrev pub fresh : List Item → List Entry
fresh xs = map (λ (x : Item). record { item = x; mark = untouched }) xs

-- Whether a mark says that its item is open.
abbrev pub is_open : Mark → Bool
is_open untouched = true
is_open (mended ds) = false

module _ (p : Policy) where
  -- "each mended finding's bytes exchanged for its replacement under its decisions"
  abbrev pub entry_chars : Mark → Item → List ℕ
  entry_chars untouched x = x.chars
  entry_chars (mended ds) x = replacement p x ds

  -- "The book's text", as characters.
  unfoldable pub book_chars : List Entry → List ℕ
  book_chars [] = []
  book_chars (e ∷ es) = entry_chars e.mark e.item ++ book_chars es

-- ---- open findings

-- An open finding: its start in the first text, the length of all replacements before it, and the length of the bytes that they took.
pub record OpenFinding : Type 0 where
  pub was : ℕ
  pub put : ℕ
  pub taken : ℕ
  pub item : Item

-- "An open finding's place is its start in the first text, plus the lengths of the replacements before it, less those of the
-- bytes they took." Those bytes stand before it in the first text, so that the subtraction is never cut off at 0 (`places` of `ListClaim`
-- in Demand3.antt).
abbrev pub placed : ℕ → ℕ → ℕ → ℕ
placed was put taken = was + put - taken

-- The place of an open finding.
abbrev pub place : OpenFinding → ℕ
place o = placed o.was o.put o.taken

-- An open finding as a finding of the first text.
abbrev pub at_first_of : OpenFinding → Found
at_first_of o = record { start = o.was; item = o.item }

-- An open finding as a finding of the book's text.
abbrev pub at_place : OpenFinding → Found
at_place o = record { start = place o; item = o.item }

-- A length that counts only if the mark is that of a mended finding.
abbrev pub if_mended : Mark → ℕ → ℕ
if_mended untouched n = 0
if_mended (mended ds) n = n

-- The open finding whose place is the offset, if there is one.
unfoldable pub open_finding_at : ℕ → List OpenFinding → Option OpenFinding
open_finding_at offset [] = None
open_finding_at offset (o ∷ os) = cond (eqb (place o) offset) (Some o) (open_finding_at offset os)

module _ (p : Policy) where
  -- The length of all replacements before the end of an entry.
  abbrev pub put_by : ℕ → Entry → ℕ
  put_by put e = put + if_mended e.mark (size width (entry_chars p e.mark e.item))

  -- The length of the bytes that all replacements before the end of an entry took.
  abbrev pub taken_by : ℕ → Entry → ℕ
  taken_by taken e = taken + if_mended e.mark (size width e.item.chars)

  -- The open findings among entries. The first entry starts at the offset `was` of the first text; the replacements before it have the
  -- length `put`, and took bytes of the length `taken`.
  unfoldable pub open_findings_from : ℕ → ℕ → ℕ → List Entry → List OpenFinding
  open_findings_from was put taken [] = []
  open_findings_from was put taken (e ∷ es) =
      let later = open_findings_from (was + size width e.item.chars) (put_by put e) (taken_by taken e) es in
      cond (is_open e.mark && is_finding p e.item) (record { was = was; put = put; taken = taken; item = e.item } ∷ later) later

  -- The entries, with the open finding whose place is the offset marked as mended.
  unfoldable pub mark_from : ℕ → ℕ → ℕ → ℕ → List Presentation → List Entry → List Entry
  mark_from was put taken offset ds [] = []
  mark_from was put taken offset ds (e ∷ es) =
      cond (is_open e.mark && is_finding p e.item && eqb (placed was put taken) offset)
      (record { item = e.item; mark = mended ds } ∷ es)
      (e ∷ mark_from (was + size width e.item.chars) (put_by put e) (taken_by taken e) offset ds es)

-- ---- a call

-- "each 0 or 1"
unfoldable pub all_binary : List ℕ → Bool
all_binary [] = true
all_binary (d ∷ ds) = leb d 1 && all_binary ds

-- A mending: a finding, by its start in the first text, and the decisions.
pub record Mending : Type 0 where
  pub start : ℕ
  pub decisions : List Presentation

-- What an accepted call mends, by the open finding at its offset.
abbrev pub mending_of : List Presentation → Option OpenFinding → List Mending
mending_of ds None = []
mending_of ds (Some o) = record { start = o.was; decisions = ds } ∷ []

module _ (policy : List ℕ) where
  -- "The list's book is fed the first text, the policy, that text's findings".
  abbrev pub first_book : List ℕ → List Entry
  first_book text = fresh (items (chars text))

  -- "The book's text is the first one with each mended finding's bytes exchanged for its replacement under its decisions."
  abbrev pub book_text : List Entry → List ℕ
  book_text es = encode_all (book_chars (policy_of policy) es)

  -- The open findings of a book, in text order.
  abbrev pub open_findings : List Entry → List OpenFinding
  open_findings es = open_findings_from (policy_of policy) 0 0 0 es

  -- The book with the open finding at the call's offset mended under its decisions.
  abbrev pub marked : List Entry → Call → List Entry
  marked es c = mark_from (policy_of policy) 0 0 0 c.offset (map meaning c.decisions) es

  -- ".. its decisions are valid (as many as the finding's eighth count, each 0 or 1) and its output holds the book's text after
  -- this": whether this holds for a call and the open finding at its offset, if there is one.
  unfoldable pub mends_finding : List Entry → Call → Option OpenFinding → Bool
  mends_finding es c None = false
  mends_finding es c (Some o) =
      eqb (length c.decisions) (non_canonicality (policy_of policy) o.item).presentation_decisions
      && (all_binary c.decisions && leb (length (book_text (marked es c))) (length c.out))

  -- "A call mends an open finding if its offset is that finding's place", and if `mends_finding` holds.
  abbrev pub mends : List Entry → Call → Bool
  mends es c = mends_finding es c (open_finding_at c.offset (open_findings es))

  -- The book after a call. "Any other call leaves the book as it is".
  abbrev pub book_step : List Entry → Call → List Entry
  book_step es c = cond (mends es c) (marked es c) es

  -- The book after a list of calls.
  unfoldable pub book_after : List Entry → List Call → List Entry
  book_after es [] = es
  book_after es (c ∷ cs) = book_after (book_step es c) cs
